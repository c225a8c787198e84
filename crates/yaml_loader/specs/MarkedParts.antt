-- What an iterator over the parts of a node has left.
use Rattle.std.specs.Prelude.{List}
use Rattle.defs_tree.specs.Tree.{Tree}
use Rattle.defs_event.specs.Marks.{Marks, beside, pairs_beside}
use Rattle.yaml_tree.specs.View.{items_view}
use Rattle.yaml_loader.specs.Table.{all_shown, pairs_shown}
use Rattle.yaml_loader.specs.declared.marked_parts.Items.{Items}
use Rattle.yaml_loader.specs.declared.marked_parts.Pairs.{Pairs}

abbrev pub items_left : Items → List (Tree × Marks)
items_left i = let ts = items_view i.rest.now in beside ts (all_shown i.table.now ts i.marks.now)

abbrev pub pairs_left : Pairs → List ((Tree × Marks) × (Tree × Marks))
pairs_left i = pairs_beside i.rest (pairs_shown i.table.now i.rest i.marks.now)
