-- Which trees are writable, and which meet what every tree meets, worked: for each condition one in and one out.
use Rattle.defs_tree.proofs.Common.{[], alias, ap, arith, bad_value, boolean, codes, FitsI64, integer, is_decimal, IsDistinct, IsShortKey, IsWritable, length, levels, List, negsuc, null, real, replicate, spelling, string, true, true≢false, typing, ℕ, ◌∷◌, ◌≡◌, ◌≤◌}
use Rattle.defs_tree.proofs.Letters.{letters_spelling}
use Rattle.defs_tree.proofs.TreeWords.{text, number, list, mapping}

record Rows : Type 0 where
  -- ---- levels
  levels_of_a_scalar : levels (number 1) ≡ 1
  levels_of_an_empty_array : levels (list []) ≡ 1
  levels_of_an_empty_hash : levels (mapping []) ≡ 1
  levels_of_an_array : levels (list (null ∷ [])) ≡ 2
  levels_of_a_hash_with_an_array_as_key : levels (mapping ((list (null ∷ []), null) ∷ [])) ≡ 3
  levels_of_the_deepest_item : levels (list (null ∷ list (list [] ∷ []) ∷ [])) ≡ 3
  -- ---- writable trees
  scalars_in : IsWritable (list (real (codes "1.5") ∷ number 1 ∷ text "a" ∷ boolean true ∷ null ∷ []))
  alias_out : ¬ IsWritable (list (alias 1 ∷ []))
  bad_value_out : ¬ IsWritable (mapping ((null, bad_value) ∷ []))
  bad_value_as_key_out : ¬ IsWritable (mapping ((bad_value, null) ∷ []))
  real_of_no_real_text_out : ¬ IsWritable (real (codes "12"))
  special_real_in : IsWritable (real (codes "-.inf"))
  -- ---- keys: a long text may stand in an array, as an item and as a value
  long_array_as_key : IsShortKey (list (string (replicate 1025 97) ∷ []))
  long_value_in : IsWritable (mapping ((null, string (replicate 1025 97)) ∷ []))
  -- ---- distinct keys, and integers of 64 bits
  distinct_keys_in : IsDistinct (mapping ((number 1, null) ∷ (text "1", null) ∷ []))
  one_key_twice_out : ¬ IsDistinct (mapping ((null, number 1) ∷ (null, number 2) ∷ []))
  one_key_twice_below_out : ¬ IsDistinct (list (mapping ((null, null) ∷ (null, null) ∷ []) ∷ []))
  greatest_integer_in : FitsI64 (list (number 9223372036854775807 ∷ []))
  least_integer_in : FitsI64 (integer (negsuc 9223372036854775807))
  above_the_greatest_out : ¬ FitsI64 (mapping ((null, number 9223372036854775808) ∷ []))
  below_the_least_out : ¬ FitsI64 (integer (negsuc 9223372036854775808))

rows : Rows
unfolding typing is_decimal
rows = search (arith, true≢false)

key_of_1024_letters : IsShortKey (string (replicate 1024 97))
key_of_1024_letters = rw (letters_spelling 1023) (omega arith)

too_long : (s : List ℕ) → s ≡ replicate 1025 97 → length s ≤ 1024 → ⊥
too_long s e h = let n : length s ≡ 1025 = ap length e in omega arith

key_of_1025_letters : ¬ IsShortKey (string (replicate 1025 97))
key_of_1025_letters h = too_long (spelling (string (replicate 1025 97))) (letters_spelling 1024) h
