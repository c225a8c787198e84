use Rattle.yaml_lexers.proofs.Common.{comment, position_of, Reads, ◌≡◌}
use Rattle.yaml_lexers.proofs.space.pass_rest.Given as goal

abbrev pub invariant-comment : goal.invariant-comment
invariant-comment g l = Reads l.fn.window l.window (λ a b. comment a (position_of l.fn.window) ≡ comment b (position_of l.window))

abbrev pub decreases-comment : goal.decreases-comment
decreases-comment g l = l.window.left
