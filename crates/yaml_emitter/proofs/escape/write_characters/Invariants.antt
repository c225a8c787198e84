use Rattle.yaml_emitter.proofs.Common.{chars, IsLeft, IsUtf8, length, written_escapes}
use Rattle.yaml_emitter.proofs.escape.write_characters.Given as goal

abbrev pub invariant-runs : goal.invariant-runs
invariant-runs g l = record {
  utf8 : IsUtf8 l.rest;
  left : IsLeft g.W.Writer.put_gives l.initial.out (written_escapes (chars l.fn.text)) l.out (written_escapes (chars l.rest));
}

abbrev pub decreases-runs : goal.decreases-runs
decreases-runs g l = length l.rest
