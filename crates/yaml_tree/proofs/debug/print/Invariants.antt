use Rattle.yaml_tree.proofs.Common.{turns, unprinted, ◌*◌, ◌+◌}
use Rattle.yaml_tree.proofs.debug.print.Given as goal

abbrev pub decreases-levels : goal.decreases-levels
decreases-levels g l = 2 * unprinted l.level + turns l.outer
