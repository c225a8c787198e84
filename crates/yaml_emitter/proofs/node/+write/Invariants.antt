use Rattle.yaml_emitter.proofs.Answering.{AreLeft, depth, item_entries, items_depth, items_of, max, pair_entries, pairs_depth, pairs_of, view, ◌*◌, ◌+◌}
use Rattle.yaml_emitter.proofs.node.+write.Given as goal

abbrev pub decreases-write_block : goal.decreases-write_block
decreases-write_block g l = 5 * depth (view l.node.now)

abbrev pub decreases-write_value : goal.decreases-write_value
decreases-write_value g l = 5 * depth (view l.node.now) + 1

abbrev pub decreases-write_items : goal.decreases-write_items
decreases-write_items g l = 5 * items_depth (items_of l.items.now) + 4

abbrev pub decreases-write_pairs : goal.decreases-write_pairs
decreases-write_pairs g l = 5 * pairs_depth (pairs_of l.pairs.now) + 4

abbrev pub decreases-write_pair : goal.decreases-write_pair
decreases-write_pair g l = 5 * max (depth (view l.key.now)) (depth (view l.value.now)) + 3

abbrev pub decreases-write_complex_pair : goal.decreases-write_complex_pair
decreases-write_complex_pair g l = 5 * max (depth (view l.key.now)) (depth (view l.value.now)) + 2

abbrev pub invariant-write_items-items : goal.invariant-write_items-items
invariant-write_items-items g l = AreLeft (item_entries l.settings.compact l.settings.multiline l.level) g.W.Writer.put_gives l.initial.out l.fn.items l.out l.is_first l.item-iterator

abbrev pub invariant-write_pairs-pairs : goal.invariant-write_pairs-pairs
invariant-write_pairs-pairs g l = AreLeft (pair_entries l.settings.compact l.settings.multiline l.level) g.W.Writer.put_gives l.initial.out l.fn.pairs l.out l.is_first l.key-iterator
