-- The keys and values of a hash in one row.
use Rattle.std.specs.Prelude.{List, [], ◌∷◌}
use Rattle.defs_tree.specs.Tree.{Tree}

-- keys and values in a row, taken two by two as pairs; a last one alone is left out
abbrev pub paired : List Tree → List (Tree × Tree)
paired [] = []
paired (k ∷ []) = []
paired (k ∷ v ∷ ts) = (k, v) ∷ paired ts

-- pairs as a row of keys and values
abbrev pub flat : List (Tree × Tree) → List Tree
flat [] = []
flat (p ∷ ps) = p.0 ∷ p.1 ∷ flat ps
