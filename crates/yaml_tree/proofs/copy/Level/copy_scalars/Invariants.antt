use Rattle.yaml_tree.proofs.Common.{[], IsFilled, left, length, source_tree, ◌≡◌, ◌≤◌}
use Rattle.yaml_tree.proofs.copy.Level.copy_scalars.Given as goal

abbrev pub invariant-loop-node : goal.invariant-loop-node
invariant-loop-node l = record {
  source : source_tree l.self.source ≡ source_tree l.initial.self.source;
  filled : IsFilled l.self [];
  left : left l.self ≤ left l.initial.self;
}

abbrev pub decreases-loop-node : goal.decreases-loop-node
decreases-loop-node l = length l.self.rest.now
