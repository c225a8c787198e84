-- The kind of a tree.
use Rattle.defs_tree.specs.Tree.{Tree, real, integer, string, boolean, array, hash, alias, null, bad_value}
use Rattle.yaml_paths.specs.declared.kind.Kind.{Kind}
use Rattle.yaml_paths.specs.declared.kind.Kind.TheVariants.{Real, Integer, String, Boolean, Array, Hash, Alias, Null, BadValue}

abbrev pub kind_of : Tree → Kind
kind_of (real s) = Real
kind_of (integer z) = Integer
kind_of (string s) = String
kind_of (boolean b) = Boolean
kind_of (array ts) = Array
kind_of (hash ps) = Hash
kind_of (alias n) = Alias
kind_of null = Null
kind_of bad_value = BadValue
