-- A node after one of its values was written over.
use Rattle.std.specs.Prelude.{ℕ, pos, List, slice_set}
use Rattle.defs_tree.specs.Tree.{string, integer}
use Rattle.defs_tree.specs.Pairs.{with_value}
use Rattle.yaml_tree.specs.View.{view}
use Rattle.yaml_tree.specs.declared.yaml.Yaml.{Yaml}
use Rattle.yaml_tree.specs.declared.yaml.Yaml.TheVariants.{Array, Hash}

-- a hash with another value at the key that is the string of the text; every other node as it is
abbrev pub with_text_value : List ℕ → Yaml → Yaml → Yaml
with_text_value text (Hash ps) w = Hash (with_value (string text) (view w) ps)
with_text_value text y w = y

-- an array with another item at the place, counted from 0; a hash with another value at the key that is the integer; every other node as it is
abbrev pub with_index_value : ℕ → Yaml → Yaml → Yaml
with_index_value i (Array ts) w = Array (slice_set ts i (view w))
with_index_value i (Hash ps) w = Hash (with_value (integer (pos i)) (view w) ps)
with_index_value i y w = y
