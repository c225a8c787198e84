-- The items of a node, and what is left of them.
use Rattle.std.specs.Prelude.{List, [], Option, Some, None}
use Rattle.std.specs.declared.vec.IntoIter.{IntoIter}
use Rattle.std.specs.declared.alloc.Global.{Global}
use Rattle.std.specs.Vec.Iter.{into_iter_items}
use Rattle.defs_tree.specs.Tree.{Tree}
use Rattle.yaml_tree.specs.View.{items_view}
use Rattle.yaml_tree.specs.declared.yaml.Yaml.{Yaml}
use Rattle.yaml_tree.specs.declared.yaml.Yaml.TheVariants.{Array}

-- the items of an array; of every other node, none
abbrev pub items_in : Yaml → List Tree
items_in (Array a) = a
items_in y = []

-- what an iterator has left, if there is one
abbrev pub items_left : Option (IntoIter Yaml Global) → List Tree
items_left (Some i) = items_view (into_iter_items i)
items_left None = []
