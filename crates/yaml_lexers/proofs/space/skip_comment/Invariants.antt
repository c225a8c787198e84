use Rattle.yaml_lexers.proofs.Common.{comment, position_of, Reads, ◌≡◌}
use Rattle.yaml_lexers.proofs.space.skip_comment.Given as goal

abbrev pub invariant-few : goal.invariant-few
invariant-few g l = Reads l.fn.window l.window (λ a b. comment a (position_of l.fn.window) ≡ comment b (position_of l.window))

abbrev pub decreases-few : goal.decreases-few
decreases-few g l = l.left
