-- Arrays and hashes of which some parts were passed.
use Rattle.std.specs.Prelude.{ℕ, Bool, if◌then◌else◌, List, drop}
use Rattle.defs_tree.specs.Tree.{Tree, array, hash}
use Rattle.yaml_json.specs.declared.level.Level.{Level}
use Rattle.yaml_tree.specs.Flat.{paired}
use Rattle.yaml_tree.specs.View.{items_view, array_tree, hash_tree}
use Rattle.yaml_tree.specs.Weight.{items_nodes, pairs_nodes}
use Rattle.yaml_tree.specs.declared.yaml.Yaml.{Yaml}

-- what is left of a row of items, or of keys and values, where so many of these nodes were passed
abbrev pub left_in : (is_hash : Bool) → (row : List Yaml) → (passed : ℕ) → Tree
left_in is_hash row passed = if is_hash then hash_tree (paired (items_view (drop passed row))) else array_tree (items_view (drop passed row))

-- what is left of a level
abbrev pub tree_left : Level → Tree
tree_left l = left_in l.is_hash l.row.now l.passed

-- how many nodes the parts have
abbrev pub part_nodes : Tree → ℕ
part_nodes (array ts) = items_nodes ts
part_nodes (hash ps) = pairs_nodes ps
part_nodes t = 0
