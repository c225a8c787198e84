-- What is known of a string that is written as it stands.
use Rattle.defs_tree.proofs.Common.{begins_with, codes, false, has_indicator_first, has_outer_space, is_among, is_empty, is_float_word, is_quoted, is_unfit_for_plain, List, list_any, or_parts, reserved_words, string, typing, ℕ, ◌≡◌, arith}
use Rattle.defs_tree.proofs.ReadBack.{string_back}

pub record IsUnquoted (s : List ℕ) : Type 0 where
  pub nonempty : is_empty s ≡ false
  pub no_outer_space : has_outer_space s ≡ false
  pub no_indicator_first : has_indicator_first s ≡ false
  pub not_hexadecimal : begins_with (codes "0x") s ≡ false
  pub fit : list_any is_unfit_for_plain s ≡ false
  pub not_reserved : is_among reserved_words s ≡ false
  pub no_float_word : is_float_word s ≡ false
  pub is_typed : typing s ≡ string s

pub unquoted : (s : List ℕ) → is_quoted s ≡ false → IsUnquoted s
unfolding is_quoted
unquoted s h = grind (arith, or_parts, string_back)
