use Rattle.yaml_emitter.proofs.Answering.{Decide, depth, items_depth, items_of, nodes, nodes_in_pairs, pairs_depth, pairs_of, view, ◌*◌, ◌+◌}
use Rattle.yaml_emitter.proofs.walk.+look.Given as goal

abbrev pub decreases-look : goal.decreases-look
decreases-look l = 2 * depth (view l.node.now)

abbrev pub decreases-look_at_items : goal.decreases-look_at_items
decreases-look_at_items l = 2 * items_depth (items_of l.items.now) + 1

abbrev pub decreases-look_at_pairs : goal.decreases-look_at_pairs
decreases-look_at_pairs l = 2 * pairs_depth (pairs_of l.pairs.now) + 1

abbrev pub invariant-look_at_items-items : goal.invariant-look_at_items-items
invariant-look_at_items-items l = Decide nodes l.fn.items l.item-iterator

abbrev pub invariant-look_at_pairs-pairs : goal.invariant-look_at_pairs-pairs
invariant-look_at_pairs-pairs l = Decide nodes_in_pairs l.fn.pairs l.key-iterator
