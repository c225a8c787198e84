-- What clauses see of documents with positions: the trees, and the marks of their nodes.
use Rattle.std.specs.Prelude.{List}
use Rattle.defs_tree.specs.Tree.{Tree}
use Rattle.defs_event.specs.Marks.{Marks}
use Rattle.yaml_tree.specs.View.{items_view}
use Rattle.yaml_loader.specs.Table.{all_shown}
use Rattle.yaml_loader.specs.declared.marked_documents.MarkedDocuments.{MarkedDocuments}

-- the documents without positions
abbrev pub trees_of : MarkedDocuments → List Tree
trees_of d = items_view d.documents.items

-- the positions of their nodes
abbrev pub marks_of_all : MarkedDocuments → List Marks
marks_of_all d = all_shown d.table.items (items_view d.documents.items) d.roots.items
