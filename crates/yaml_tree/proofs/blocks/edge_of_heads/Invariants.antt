use Rattle.yaml_tree.proofs.BlocksCommon.{binary_digits, head_at, IsSearch, length, ◌-◌}
use Rattle.yaml_tree.proofs.blocks.edge_of_heads.Given as goal

abbrev pub invariant-loop-low : goal.invariant-loop-low
invariant-loop-low l = IsSearch (head_at l.blocks) (length l.blocks) (binary_digits (length l.blocks)) l.digest l.initial.compared l.compared l.low l.high

abbrev pub decreases-loop-low : goal.decreases-loop-low
decreases-loop-low l = l.high - l.low
