use Rattle.yaml_lexers.proofs.Common.{GoesOn, inside}
use Rattle.yaml_lexers.proofs.quoted.read_run.Given as goal

abbrev pub invariant-few : goal.invariant-few
invariant-few g l = GoesOn l.fn.quote inside l.fn.window l.fn.scalar inside l.window l.scalar

abbrev pub decreases-few : goal.decreases-few
decreases-few g l = l.left
