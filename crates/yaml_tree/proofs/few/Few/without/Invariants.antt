use Rattle.yaml_tree.proofs.Common.{closed_up, drop, length, remove, ◌≤◌}
use Rattle.yaml_tree.proofs.Packing.{IsPacking}
use Rattle.yaml_tree.proofs.few.Few.without.Given as goal

abbrev pub invariant-loop-left : goal.invariant-loop-left
invariant-loop-left l = record {
  within : l.left ≤ length l.self;
  packing : IsPacking (closed_up l.gone) (drop (closed_up l.rank l.left) (remove l.self l.rank)) l.rest;
}

abbrev pub decreases-loop-left : goal.decreases-loop-left
decreases-loop-left l = l.left
