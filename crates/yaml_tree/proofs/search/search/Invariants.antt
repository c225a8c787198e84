use Rattle.yaml_tree.proofs.Common.{first_by, HasSpot, length, pairs_view, places, probed, rank_at, ◌≡◌}
use Rattle.defs_tree.specs.Digits.{binary_digits}
use Rattle.yaml_tree.proofs.Digesting.{AreLeft}
use Rattle.yaml_tree.proofs.Halving.{IsCounting}
use Rattle.yaml_tree.proofs.search.search.Given as goal

abbrev pub invariant-loop-count : goal.invariant-loop-count
invariant-loop-count l = record {
  spot : HasSpot l.ranks.kept l.low;
  left : AreLeft (first_by l.ranks.kept) (probed l.probe) (places l.ranks.kept) (pairs_view l.row) (rank_at l.ranks.kept l.low) l.count;
  counting : IsCounting l.initial.steps.keys (binary_digits (length (places l.ranks.kept))) l.steps.keys l.count;
  digests : l.steps.digests ≡ l.initial.steps.digests;
}

abbrev pub decreases-loop-count : goal.decreases-loop-count
decreases-loop-count l = l.count
