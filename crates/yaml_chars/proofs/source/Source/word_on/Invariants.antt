use Rattle.yaml_chars.proofs.Common.{false, GoesOn, ◌≡◌}
use Rattle.yaml_chars.proofs.source.Source.word_on.Given as goal

abbrev pub invariant-run : goal.invariant-run
invariant-run g l = record {
  goes : GoesOn l.run l.fn.self l.self l.count l.fn.text l.text;
  going : l.self.done ≡ false;
}

abbrev pub decreases-run : goal.decreases-run
decreases-run g l = l.self.left
