use Rattle.yaml_tree.proofs.Common.{vec_len, ◌*◌, ◌+◌}
use Rattle.yaml_tree.proofs.discard.+levels.Given as goal

abbrev pub decreases-discard_parts : goal.decreases-discard_parts
decreases-discard_parts l = 2 * l.levels

abbrev pub decreases-discard_node : goal.decreases-discard_node
decreases-discard_node l = 2 * l.levels + 1

abbrev pub decreases-discard_parts-loop-item : goal.decreases-discard_parts-loop-item
decreases-discard_parts-loop-item l = vec_len l.row
