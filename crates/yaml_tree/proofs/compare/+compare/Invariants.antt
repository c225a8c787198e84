use Rattle.yaml_tree.proofs.Common.{drop, length, on, slice_cmp, tree_cmp, view, ◌-◌, ◌≡◌, ◌≤◌}
use Rattle.yaml_tree.proofs.compare.+compare.Given as goal

abbrev pub invariant-compare_nodes-loop-i : goal.invariant-compare_nodes-loop-i
invariant-compare_nodes-loop-i l = record {
  first_in : l.i ≤ length l.a;
  second_in : l.i ≤ length l.b;
  same : slice_cmp (on view tree_cmp) l.a l.b ≡ slice_cmp (on view tree_cmp) (drop l.i l.a) (drop l.i l.b);
}

abbrev pub decreases-compare_nodes-loop-i : goal.decreases-compare_nodes-loop-i
decreases-compare_nodes-loop-i l = length l.a - l.i
