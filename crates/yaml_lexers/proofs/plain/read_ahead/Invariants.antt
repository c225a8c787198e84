use Rattle.yaml_lexers.proofs.Common.{at, plain_from, Position, Reads, ◌≡◌}
use Rattle.model_scanner.specs.Plain.{inside}
use Rattle.yaml_lexers.proofs.plain.read_ahead.Given as goal

abbrev pub invariant-few : goal.invariant-few
invariant-few g l = Reads l.fn.window l.window (λ a b. (start : Position) → plain_from l.fn.context start a (at inside l.fn.window l.fn.scalar) ≡ plain_from l.fn.context start b (at inside l.window l.scalar))

abbrev pub decreases-few : goal.decreases-few
decreases-few g l = l.left
