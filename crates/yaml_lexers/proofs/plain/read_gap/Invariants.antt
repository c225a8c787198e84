use Rattle.yaml_lexers.proofs.Common.{at, between, plain_from, Reads, ◌≡◌}
use Rattle.yaml_lexers.proofs.plain.read_gap.Given as goal

abbrev pub invariant-gap : goal.invariant-gap
invariant-gap g l = Reads l.fn.window l.window (λ a b. plain_from l.fn.context l.fn.start a (at between l.fn.window l.fn.scalar) ≡ plain_from l.fn.context l.fn.start b (at between l.window l.scalar))

abbrev pub decreases-gap : goal.decreases-gap
decreases-gap g l = l.window.left
