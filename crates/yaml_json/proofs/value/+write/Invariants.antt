use Rattle.yaml_json.proofs.Answering.{AreLeft, depth, item_entries, items_depth, items_of, member_entries, pairs_depth, pairs_of, view, ◌*◌, ◌+◌}
use Rattle.yaml_json.proofs.value.+write.Given as goal

abbrev pub decreases-write_value : goal.decreases-write_value
decreases-write_value g l = 5 * depth (view l.node.now) + 3

abbrev pub decreases-write_nest : goal.decreases-write_nest
decreases-write_nest g l = 5 * depth (view l.node.now) + 2

abbrev pub decreases-write_node : goal.decreases-write_node
decreases-write_node g l = 5 * depth (view l.node.now) + 1

abbrev pub decreases-write_parts : goal.decreases-write_parts
decreases-write_parts g l = 5 * depth (view l.node.now)

abbrev pub decreases-write_items : goal.decreases-write_items
decreases-write_items g l = 5 * items_depth (items_of l.items.now) + 4

abbrev pub decreases-write_members : goal.decreases-write_members
decreases-write_members g l = 5 * pairs_depth (pairs_of l.pairs.now) + 4

abbrev pub invariant-write_items-items : goal.invariant-write_items-items
invariant-write_items-items g l = AreLeft (item_entries (g.S.Spacing.indentation l.spacing) l.margin) g.W.Writer.put_gives l.initial.out l.fn.items l.out l.is_first l.item-iterator

abbrev pub invariant-write_members-pairs : goal.invariant-write_members-pairs
invariant-write_members-pairs g l = AreLeft (member_entries (g.S.Spacing.indentation l.spacing) l.margin) g.W.Writer.put_gives l.initial.out l.fn.pairs l.out l.is_first l.key-iterator
