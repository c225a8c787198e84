use Rattle.overlay.proofs.Common.{with_new_pairs, ◌≡◌}
use Rattle.overlay.proofs.carry_out.add_new_pairs.Given as goal

abbrev pub invariant-pairs : goal.invariant-pairs
invariant-pairs l = with_new_pairs l.pairs l.key-iterator ≡ with_new_pairs l.initial.pairs l.fn.mapping
