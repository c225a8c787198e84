use Rattle.yaml_tree.proofs.Common.{length, unprinted, ◌≤◌}
use Rattle.yaml_tree.proofs.debug.print_scalars.Given as goal

abbrev pub invariant-loop-node : goal.invariant-loop-node
invariant-loop-node g l = unprinted l.level ≤ unprinted l.initial.level

abbrev pub decreases-loop-node : goal.decreases-loop-node
decreases-loop-node g l = length l.level.rest.now
