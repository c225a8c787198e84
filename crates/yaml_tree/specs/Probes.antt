-- What is looked up in a hash, as a tree.
use Rattle.std.specs.Prelude.{chars}
use Rattle.defs_tree.specs.Tree.{Tree, string}
use Rattle.yaml_tree.specs.View.{view}
use Rattle.yaml_tree.specs.declared.search.Probe.{Probe}
use Rattle.yaml_tree.specs.declared.search.Probe.TheVariants.{Node, Text}

-- the key that is looked up
abbrev pub probed : Probe → Tree
probed (Node y) = view y.now
probed (Text s) = string (chars s.now)
