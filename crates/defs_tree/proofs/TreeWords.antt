-- Words for the rows: trees, with texts as they stand.
use Prim.Native.String.{String}
use Rattle.defs_tree.proofs.Common.{array, codes, hash, integer, items_of, List, pairs_of, pos, string, Tree, ℕ}

-- a string, an integer, an array, a hash
abbrev pub text : String → Tree
text s = string (codes s)

abbrev pub number : ℕ → Tree
number n = integer (pos n)

abbrev pub list : List Tree → Tree
list ts = array (items_of ts)

abbrev pub mapping : List (Tree × Tree) → Tree
mapping ps = hash (pairs_of ps)
