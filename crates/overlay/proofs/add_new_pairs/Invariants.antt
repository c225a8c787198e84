use Rattle.overlay.proofs.Common.{inserted, new_pairs, ◌≡◌}
use Rattle.overlay.proofs.add_new_pairs.Given as goal

abbrev pub invariant-pairs : goal.invariant-pairs
invariant-pairs l = inserted l.pairs (new_pairs l.left l.key-iterator) ≡ inserted l.initial.pairs (new_pairs l.left l.fn.right)
