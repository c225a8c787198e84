-- Pairs that are put into a hash one after the other.
use Rattle.std.specs.Prelude.{List, [], ◌∷◌}
use Rattle.defs_tree.specs.Tree.{Tree}
use Rattle.defs_tree.specs.Pairs.{insert}

-- the hash after the pairs
abbrev pub inserted : List (Tree × Tree) → List (Tree × Tree) → List (Tree × Tree)
inserted ps [] = ps
inserted ps (q ∷ qs) = inserted (insert q.0 q.1 ps) qs
