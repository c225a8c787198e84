use Rattle.yaml_chars.proofs.Common.{position_of, Reads, TakesWords}
use Rattle.yaml_chars.proofs.window.Window.take_words.Given as goal

abbrev pub invariant-held : goal.invariant-held
invariant-held g l = Reads l.fn.self l.self (λ a b. TakesWords l.fn.run a b (position_of l.fn.self) (position_of l.self) l.fn.text l.text)

abbrev pub decreases-held : goal.decreases-held
decreases-held g l = l.self.left
