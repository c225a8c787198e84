use Rattle.yaml_chars.proofs.Common.{position_of, ran, Reads, ◌≡◌}
use Rattle.yaml_chars.proofs.window.Window.take_run.Given as goal

abbrev pub invariant-held : goal.invariant-held
invariant-held g l = Reads l.fn.self l.self (λ a b. ran l.fn.run a (position_of l.fn.self) l.fn.text ≡ ran l.fn.run b (position_of l.self) l.text)

abbrev pub decreases-held : goal.decreases-held
decreases-held g l = l.self.left
