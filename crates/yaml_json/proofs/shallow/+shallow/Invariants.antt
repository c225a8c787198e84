use Rattle.yaml_json.proofs.Common.{are_items_shallow, are_pairs_shallow, depth, is_shallow, items_depth, items_of, pairs_depth, pairs_of, view, ◌*◌, ◌+◌, ◌≡◌, ◌≤◌}
use Rattle.yaml_json.proofs.shallow.+shallow.Given as goal

abbrev pub decreases-is_shallow : goal.decreases-is_shallow
decreases-is_shallow l = 2 * depth (view l.root.now)

abbrev pub invariant-is_shallow-node : goal.invariant-is_shallow-node
invariant-is_shallow-node l = record {
  same : is_shallow l.levels (view l.fn.root) ≡ is_shallow l.left (view l.node);
  no_deeper : depth (view l.node) ≤ depth (view l.fn.root);
}

abbrev pub decreases-is_shallow-node : goal.decreases-is_shallow-node
decreases-is_shallow-node l = depth (view l.node)

abbrev pub decreases-are_items_shallow : goal.decreases-are_items_shallow
decreases-are_items_shallow l = 2 * items_depth (items_of l.items.now) + 1

abbrev pub decreases-are_pairs_shallow : goal.decreases-are_pairs_shallow
decreases-are_pairs_shallow l = 2 * pairs_depth (pairs_of l.pairs.now) + 1

abbrev pub invariant-are_items_shallow-items : goal.invariant-are_items_shallow-items
invariant-are_items_shallow-items l = record {
  left : are_items_shallow l.levels (items_of l.fn.items) ≡ are_items_shallow l.levels (items_of l.item-iterator);
  no_deeper : items_depth (items_of l.item-iterator) ≤ items_depth (items_of l.fn.items);
}

abbrev pub invariant-are_pairs_shallow-pairs : goal.invariant-are_pairs_shallow-pairs
invariant-are_pairs_shallow-pairs l = record {
  left : are_pairs_shallow l.levels (pairs_of l.fn.pairs) ≡ are_pairs_shallow l.levels (pairs_of l.key-iterator);
  no_deeper : pairs_depth (pairs_of l.key-iterator) ≤ pairs_depth (pairs_of l.fn.pairs);
}
