use Rattle.overlay.proofs.Common.{depth, items_depth, items_of, merged_items, merged_values, pairs_depth, pairs_of, view, ◌*◌, ◌++◌, ◌+◌, ◌≡◌, ◌≤◌}
use Rattle.overlay.proofs.carry_out.+merged.Given as goal

abbrev pub decreases-merged : goal.decreases-merged
decreases-merged l = 2 * depth (view l.node.now)

abbrev pub decreases-merged_items : goal.decreases-merged_items
decreases-merged_items l = 2 * items_depth (items_of l.items.now) + 1

abbrev pub invariant-merged_items-items : goal.invariant-merged_items-items
invariant-merged_items-items l = record {
  merged : l.whole ++ merged_items (items_of l.item-iterator) ≡ merged_items (items_of l.fn.items);
  no_deeper : items_depth (items_of l.item-iterator) ≤ items_depth (items_of l.fn.items);
}

abbrev pub decreases-merged_values : goal.decreases-merged_values
decreases-merged_values l = 2 * pairs_depth (pairs_of l.pairs.now) + 1

abbrev pub invariant-merged_values-pairs : goal.invariant-merged_values-pairs
invariant-merged_values-pairs l = record {
  merged : l.whole ++ merged_values (pairs_of l.key-iterator) ≡ merged_values (pairs_of l.fn.pairs);
  no_deeper : pairs_depth (pairs_of l.key-iterator) ≤ pairs_depth (pairs_of l.fn.pairs);
}
