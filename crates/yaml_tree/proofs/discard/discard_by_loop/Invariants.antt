use Rattle.yaml_tree.proofs.Common.{view, weight}
use Rattle.yaml_tree.proofs.discard.discard_by_loop.Given as goal

abbrev pub decreases-loop-next : goal.decreases-loop-next
decreases-loop-next l = weight (view l.rest)
