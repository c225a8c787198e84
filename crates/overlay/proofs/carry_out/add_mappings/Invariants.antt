use Rattle.overlay.proofs.Common.{items_of, pairs_of_mappings, with_new_pairs, ◌≡◌}
use Rattle.overlay.proofs.carry_out.add_mappings.Given as goal

abbrev pub invariant-items : goal.invariant-items
invariant-items l = with_new_pairs l.pairs (pairs_of_mappings (items_of l.item-iterator)) ≡ with_new_pairs l.initial.pairs (pairs_of_mappings (items_of l.fn.items))
