-- What an error says of the tree.
use Rattle.std.specs.Prelude.{◌≡◌, true, Some}
use Rattle.defs_tree.specs.MergeFault.{any_node, first_fault}
use Rattle.defs_tree.specs.Tree.{Tree}
use Rattle.overlay.specs.Found.{path_of}
use Rattle.overlay.specs.declared.error.MergeError.{MergeError}
use Rattle.overlay.specs.declared.error.MergeError.TheVariants.{NotAMapping, OutOfMemory}
use Rattle.yaml_tree.specs.Node.{takes_memory}

-- The first node that cannot be merged is named. Memory is asked for only where the root is kept in memory of its own.
abbrev pub Says : Tree → MergeError → Type 0
Says t (NotAMapping n) = first_fault any_node t ≡ Some (path_of n)
Says t OutOfMemory = takes_memory t ≡ true
