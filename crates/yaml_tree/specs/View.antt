-- The tree that a `Yaml` stands for: its strings are lists of characters, its arrays and hashes lists of trees.
use Rattle.std.specs.Prelude.{List, map}
use Rattle.defs_text.specs.Text.{string_chars}
use Rattle.defs_tree.specs.Tree.{Tree, real, integer, string, boolean, array, hash, alias, null, bad_value, items_of, pairs_of}
use Rattle.yaml_tree.specs.Flat.{paired}
use Rattle.yaml_tree.specs.declared.yaml.Yaml.{Yaml}
use Rattle.yaml_tree.specs.declared.yaml.Yaml.TheVariants.{Real, Integer, String, Boolean, Array, Hash, Alias, Null, BadValue}

-- the tree of a list of items
abbrev pub array_tree : List Tree → Tree
array_tree ts = array (items_of ts)

-- the tree of a list of pairs
abbrev pub hash_tree : List (Tree × Tree) → Tree
hash_tree ps = hash (pairs_of ps)

-- the tree of a node
abbrev pub view : Yaml → Tree
view (Real s) = real (string_chars s)
view (Integer z) = integer z
view (String s) = string (string_chars s)
view (Boolean b) = boolean b
view (Array a) = array (items_of a)
view (Hash h) = hash (pairs_of h)
view (Alias n) = alias n
view Null = null
view BadValue = bad_value

-- the trees of nodes in a row
abbrev pub items_view : List Yaml → List Tree
items_view ys = map view ys

-- the trees of a key and its value
abbrev pub pair_view : Yaml × Yaml → Tree × Tree
pair_view p = (view p.0, view p.1)

-- the pairs of nodes in a row
abbrev pub pairs_view : List Yaml → List (Tree × Tree)
pairs_view ys = paired (items_view ys)
