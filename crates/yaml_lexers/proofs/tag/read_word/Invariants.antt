use Rattle.yaml_lexers.proofs.Common.{is_alpha, position_of, Reads, take_while, ◌≡◌}
use Rattle.yaml_lexers.proofs.tag.read_word.Given as goal

abbrev pub invariant-word : goal.invariant-word
invariant-word g l = Reads l.fn.window l.window (λ a b. take_while is_alpha a (position_of l.fn.window) l.fn.text ≡ take_while is_alpha b (position_of l.window) l.text)

abbrev pub decreases-word : goal.decreases-word
decreases-word g l = l.window.left
