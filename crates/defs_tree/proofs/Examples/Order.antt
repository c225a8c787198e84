-- Trees compared, worked.
use Rattle.defs_tree.proofs.Common.{[], alias, bad_value, boolean, codes, Equal, false, Greater, integer, Less, negsuc, null, real, string, tree_cmp, true, ◌∷◌, ◌≡◌}
use Rattle.defs_tree.proofs.TreeWords.{text, number, list, mapping}

record Rows : Type 0 where
  real_before_integer : tree_cmp (real (codes "z")) (integer (negsuc 8)) ≡ Less
  integer_before_string : tree_cmp (number 9) (text "") ≡ Less
  string_before_boolean : tree_cmp (text "z") (boolean false) ≡ Less
  boolean_before_array : tree_cmp (boolean true) (list []) ≡ Less
  array_before_hash : tree_cmp (list (number 9 ∷ [])) (mapping []) ≡ Less
  hash_before_alias : tree_cmp (mapping ((number 9, number 9) ∷ [])) (alias 0) ≡ Less
  alias_before_null : tree_cmp (alias 9) null ≡ Less
  null_before_bad_value : tree_cmp null bad_value ≡ Less
  bad_value_after_real : tree_cmp bad_value (real (codes "z")) ≡ Greater
  letters : tree_cmp (text "a") (text "b") ≡ Less
  beginning_of_a_text : tree_cmp (text "a") (text "ab") ≡ Less
  later_letter_of_a_longer_text : tree_cmp (text "b") (text "aa") ≡ Greater
  capitals_before_small_letters : tree_cmp (text "Z") (text "a") ≡ Less
  same_text : tree_cmp (text "ab") (text "ab") ≡ Equal
  code_above_16_bits_after_one_below : tree_cmp (string (65536 ∷ [])) (string (65533 ∷ [])) ≡ Greater
  integers : tree_cmp (integer (negsuc 0)) (number 0) ≡ Less
  negative_integers : tree_cmp (integer (negsuc 1)) (integer (negsuc 0)) ≡ Less
  booleans : tree_cmp (boolean false) (boolean true) ≡ Less
  shorter_array : tree_cmp (list (number 1 ∷ [])) (list (number 1 ∷ number 0 ∷ [])) ≡ Less
  later_item : tree_cmp (list (number 1 ∷ number 3 ∷ [])) (list (number 1 ∷ number 2 ∷ number 9 ∷ [])) ≡ Greater
  empty_array : tree_cmp (list []) (list (null ∷ [])) ≡ Less
  same_array : tree_cmp (list (number 1 ∷ text "a" ∷ [])) (list (number 1 ∷ text "a" ∷ [])) ≡ Equal
  keys_before_values : tree_cmp (mapping ((text "a", number 9) ∷ [])) (mapping ((text "b", number 1) ∷ [])) ≡ Less
  values_of_one_key : tree_cmp (mapping ((text "a", number 9) ∷ [])) (mapping ((text "a", number 1) ∷ [])) ≡ Greater
  shorter_hash : tree_cmp (mapping ((text "a", number 1) ∷ [])) (mapping ((text "a", number 1) ∷ (text "b", number 2) ∷ [])) ≡ Less
  pairs_in_another_order : tree_cmp (mapping ((text "a", number 1) ∷ (text "b", number 2) ∷ []))
      (mapping ((text "b", number 2) ∷ (text "a", number 1) ∷ []))
      ≡ Less
  same_hash : tree_cmp (mapping ((text "a", number 1) ∷ (text "b", number 2) ∷ []))
      (mapping ((text "a", number 1) ∷ (text "b", number 2) ∷ []))
      ≡ Equal
  aliases : tree_cmp (alias 1) (alias 2) ≡ Less
  nulls : tree_cmp null null ≡ Equal

rows : Rows
rows = search
