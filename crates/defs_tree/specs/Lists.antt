-- The order of lists of trees and of lists of pairs, as arrays and hashes are seen.
use Rattle.std.specs.Prelude.{List}
use Rattle.std.specs.declared.cmp.Ordering.{Ordering}
use Rattle.std.specs.Ordering.{ordering_then}
use Rattle.std.specs.Cmp.Lexicographic.{slice_cmp}
use Rattle.defs_tree.specs.Tree.{Tree}
use Rattle.defs_tree.specs.Order.{tree_cmp}

-- the key, then the value
abbrev pub pair_cmp : Tree × Tree → Tree × Tree → Ordering
pair_cmp p q = ordering_then (tree_cmp p.0 q.0) (tree_cmp p.1 q.1)

-- item by item
abbrev pub list_cmp : List Tree → List Tree → Ordering
list_cmp = slice_cmp tree_cmp

-- pair by pair
abbrev pub pair_list_cmp : List (Tree × Tree) → List (Tree × Tree) → Ordering
pair_list_cmp = slice_cmp pair_cmp
