-- How scalars are spelt, worked.
use Rattle.std.specs.Fmt.{digits}
use Rattle.defs_tree.proofs.Common.{[], alias, bad_value, boolean, codes, false, integer, is_decimal, is_quoted, is_unfit_for_plain, negsuc, null, real, spelling, string, true, typing, written_character, ◌∷◌, ◌≡◌}
use Rattle.defs_tree.proofs.TreeWords.{text, number, list, mapping}

record Rows : Type 0 where
  null_is_a_tilde : spelling null ≡ codes "~"
  bad_value_is_a_tilde : spelling bad_value ≡ codes "~"
  alias_is_nothing : spelling (alias 1) ≡ codes ""
  true_is_a_word : spelling (boolean true) ≡ codes "true"
  false_is_a_word : spelling (boolean false) ≡ codes "false"
  integer_is_its_digits : spelling (number 42) ≡ codes "42"
  zero_is_one_digit : spelling (number 0) ≡ codes "0"
  negative_integer_has_a_minus : spelling (integer (negsuc 6)) ≡ codes "-7"
  greatest_integer : spelling (number 9223372036854775807) ≡ codes "9223372036854775807"
  least_integer : spelling (integer (negsuc 9223372036854775807)) ≡ codes "-9223372036854775808"
  real_is_its_text : spelling (real (codes "1e400")) ≡ codes "1e400"
  empty_array : spelling (list []) ≡ codes "[]"
  empty_hash : spelling (mapping []) ≡ codes "{}"
  octal_text_is_quoted : spelling (text "0o52") ≡ codes "\"0o52\""
  inf_is_quoted : spelling (text "inf") ≡ codes "\"inf\""
  colon_is_quoted : spelling (text "x: %") ≡ codes "\"x: %\""
  yes_is_quoted : spelling (text "yes") ≡ codes "\"yes\""
  true_is_quoted : spelling (text "true") ≡ codes "\"true\""
  tilde_is_quoted : spelling (text "~") ≡ codes "\"~\""
  real_text_is_quoted : spelling (text "2.6") ≡ codes "\"2.6\""
  apostrophe_is_quoted : spelling (text "can't") ≡ codes "\"can't\""
  point_first_is_quoted : spelling (text ".milk") ≡ codes "\".milk\""
  two_words_stand : spelling (text "a b") ≡ codes "a b"
  date_stands : spelling (text "2014-12-31") ≡ codes "2014-12-31"
  chinese_letters_stand : spelling (string (20320 ∷ 22909 ∷ [])) ≡ 20320 ∷ 22909 ∷ []
  lines_are_escaped : spelling (text "a\n---\nb") ≡ codes "\"a\\n---\\nb\""

rows : Rows
unfolding is_quoted is_unfit_for_plain typing is_decimal written_character digits
rows = search
