use Rattle.overlay.proofs.Common.{depth, drop, items_depth, items_of, items_view, length, pairs_depth, pairs_of, view, ◌*◌, ◌+◌, ◌≡◌, ◌≤◌}
use Rattle.defs_tree.specs.MergeFault.{first_item_fault, first_pair_fault}
use Rattle.overlay.specs.Found.{wanted_view}
use Rattle.overlay.proofs.find.+find.Given as goal

abbrev pub decreases-find : goal.decreases-find
decreases-find l = 2 * depth (view l.node.now)

abbrev pub decreases-find_in_items : goal.decreases-find_in_items
decreases-find_in_items l = 2 * items_depth (items_of l.items.now) + 1

abbrev pub invariant-find_in_items-items : goal.invariant-find_in_items-items
invariant-find_in_items-items l = record {
  left : first_item_fault (wanted_view l.wanted) 0 (items_of l.items) ≡ first_item_fault (wanted_view l.wanted) l.index (items_of (items_view (drop l.index l.item-items)));
  no_deeper : items_depth (items_of (items_view (drop l.index l.item-items))) ≤ items_depth (items_of l.items);
}

abbrev pub decreases-find_in_pairs : goal.decreases-find_in_pairs
decreases-find_in_pairs l = 2 * pairs_depth (pairs_of l.pairs.now) + 1

abbrev pub invariant-find_in_pairs-pairs : goal.invariant-find_in_pairs-pairs
invariant-find_in_pairs-pairs l = record {
  left : first_pair_fault 0 (pairs_of l.fn.pairs) ≡ first_pair_fault l.place (pairs_of l.key-iterator);
  no_deeper : pairs_depth (pairs_of l.key-iterator) ≤ pairs_depth (pairs_of l.fn.pairs);
  counted : l.place + length l.key-iterator ≡ length l.fn.pairs;
}
