-- Words for the rows: written things, with texts as they stand.
use Prim.Native.String.{String}
use Rattle.defs_tree.proofs.TreeWords.{text, number}
use Rattle.defs_layout.proofs.Common.{ap, array, beside, Block, codes, empty_array, false, full, last_entry, Line, no_comment, plain, scalar, Scalar, sym, Tree, tree_eq, true, true≢false, Value, ℕ, ◌∙◌, ◌≡◌, ◌≢◌}

-- scalars: a string as it stands, an integer; a scalar after one space, a full line
abbrev pub word : String → Scalar
word s = plain (text s)

abbrev pub integer : ℕ → Scalar
integer n = plain (number n)

abbrev pub one : Scalar → Value
one s = beside 0 (scalar s) no_comment

abbrev pub line : String → Line
line s = full (codes s)

-- an empty array after one space, and as the one entry of an array
abbrev pub empty : Value
empty = beside 0 empty_array no_comment

abbrev pub nested : Block
nested = array (last_entry empty)

-- two trees that the test of equality tells apart are not equal
pub differ : (a b : Tree) → tree_eq a a ≡ true → tree_eq a b ≡ false → a ≢ b
differ a b same other e = true≢false (sym same ∙ ap (tree_eq a) e ∙ other)
