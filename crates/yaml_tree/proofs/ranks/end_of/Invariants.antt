use Rattle.yaml_tree.proofs.Common.{digest_at, length, ℕ, ◌<◌, ◌≤◌}
use Rattle.yaml_tree.proofs.ranks.end_of.Given as goal

abbrev pub invariant-loop-end : goal.invariant-loop-end
invariant-loop-end l = record {
  within : l.end ≤ length l.entries;
  after : (i : ℕ) → l.end ≤ i → i < length l.entries → l.digest < digest_at l.entries i;
}

abbrev pub decreases-loop-end : goal.decreases-loop-end
decreases-loop-end l = l.end
