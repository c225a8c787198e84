use Rattle.overlay.proofs.Common.{[], depth, inserted, pairs_depth, pairs_of, pairs_under, view, ◌*◌, ◌+◌, ◌≡◌, ◌≤◌}
use Rattle.overlay.proofs.+overlay.Given as goal

abbrev pub decreases-overlay : goal.decreases-overlay
decreases-overlay l = 2 * depth (view l.left.now)

abbrev pub decreases-shared_pairs : goal.decreases-shared_pairs
decreases-shared_pairs l = 2 * pairs_depth (pairs_of l.left.now) + 1

abbrev pub invariant-shared_pairs-pairs : goal.invariant-shared_pairs-pairs
invariant-shared_pairs-pairs l = record {
  laid : inserted l.pairs (pairs_under l.right (pairs_of l.key-iterator)) ≡ inserted [] (pairs_under l.right (pairs_of l.fn.left));
  no_deeper : pairs_depth (pairs_of l.key-iterator) ≤ pairs_depth (pairs_of l.fn.left);
}
