-- Statements over trees and what the code makes of them, each the contract of the function with its name in `laws`.
use Rattle.std.specs.Prelude.{◌≡◌, IsTrue}
use Rattle.defs_tree.specs.Tree.{Tree}
use Rattle.defs_tree.specs.Order.{tree_eq}
use Rattle.yaml_tree.specs.Feed.{tree_feed}

-- `equal_trees_hash_alike`
abbrev pub EqualTreesHashAlike : Type 0
EqualTreesHashAlike = (t u : Tree) → IsTrue (tree_eq t u) → tree_feed t ≡ tree_feed u
