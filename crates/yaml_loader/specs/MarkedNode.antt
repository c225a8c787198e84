-- What clauses see of a node: its tree, and the marks of it and of its parts.
use Rattle.defs_tree.specs.Tree.{Tree}
use Rattle.defs_event.specs.Marks.{Marks}
use Rattle.yaml_tree.specs.View.{view}
use Rattle.yaml_loader.specs.Table.{shown_marks}
use Rattle.yaml_loader.specs.declared.marked_node.Marked.{Marked}

-- the node without positions
abbrev pub tree_of : Marked → Tree
tree_of n = view n.tree.now

-- its positions, and those of its parts
abbrev pub marks_of : Marked → Marks
marks_of n = shown_marks n.table.now (view n.tree.now) n.mark.now

-- both
abbrev pub node_of : Marked → Tree × Marks
node_of n = (tree_of n, marks_of n)

-- of a key and its value
abbrev pub pair_of : Marked × Marked → (Tree × Marks) × (Tree × Marks)
pair_of p = (node_of p.0, node_of p.1)
