use Rattle.yaml_tree.proofs.BlocksCommon.{binary_digits, digest_at, IsSearch, length, ◌-◌}
use Rattle.yaml_tree.proofs.block.Block.edge.Given as goal

abbrev pub invariant-loop-low : goal.invariant-loop-low
invariant-loop-low l = IsSearch (digest_at l.entries) (length l.entries) (binary_digits (length l.entries - 1)) l.digest l.initial.compared l.compared l.low l.high

abbrev pub decreases-loop-low : goal.decreases-loop-low
decreases-loop-low l = l.high - l.low
