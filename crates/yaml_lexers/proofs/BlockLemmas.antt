-- Lemmas about block scalars that are being read.
use Rattle.yaml_lexers.proofs.Common.{[], arith, ends_indent, false, is_break, List, nat_tests, refl, slice_index, true, ℕ, ◌<◌, ◌∷◌, ◌≡◌, ◌≢◌}

-- neither a space before the column nor a break stands here
pub indent_ends : (column col c : ℕ) (a : List ℕ) → c ≡ slice_index a 0 → is_break c ≡ false → (col < column → slice_index a 0 ≢ 32) → ends_indent column col a ≡ true
unfolding ends_indent
indent_ends column col c b is d e = grind arith
