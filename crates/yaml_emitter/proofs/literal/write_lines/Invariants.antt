use Rattle.yaml_emitter.proofs.Common.{below, chars, IsLeft, IsUtf8, length, lines_of}
use Rattle.yaml_emitter.proofs.literal.write_lines.Given as goal

abbrev pub invariant-lines : goal.invariant-lines
invariant-lines g l = record {
  utf8 : IsUtf8 l.rest;
  left : IsLeft g.W.Writer.put_gives l.initial.out (below l.level (lines_of (chars l.fn.text))) l.out (below l.level (lines_of (chars l.rest)));
}

abbrev pub decreases-lines : goal.decreases-lines
decreases-lines g l = length l.rest
