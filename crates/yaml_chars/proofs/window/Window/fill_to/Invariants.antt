use Rattle.yaml_chars.proofs.Common.{Reads, SamePosition, ◌-◌, ◌≡◌}
use Rattle.yaml_chars.proofs.window.Window.fill_to.Given as goal

abbrev pub invariant-loop-self : goal.invariant-loop-self
invariant-loop-self g l = Reads l.fn.self l.self (λ a b. b ≡ a) × SamePosition l.fn.self l.self

abbrev pub decreases-loop-self : goal.decreases-loop-self
decreases-loop-self g l = l.n - l.self.ahead
