use Rattle.yaml_tree.proofs.Common.{drop, moved_up, ◌≤◌}
use Rattle.yaml_tree.proofs.Packing.{IsPacking}
use Rattle.yaml_tree.proofs.few.Few.moved_to_end.Given as goal

abbrev pub invariant-loop-left : goal.invariant-loop-left
invariant-loop-left l = record {
  within : l.left ≤ l.count;
  packing : IsPacking (moved_up l.gone l.count) (drop l.left l.self) l.moved;
}

abbrev pub decreases-loop-left : goal.decreases-loop-left
decreases-loop-left l = l.left
