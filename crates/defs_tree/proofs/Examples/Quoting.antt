-- Which strings are written in double quotes, worked: for each reason one in, and one out beside its limit.
use Rattle.defs_tree.proofs.Common.{[], codes, false, is_decimal, is_quoted, is_unfit_for_plain, true, typing, ◌∷◌, ◌≡◌}

record Rows : Type 0 where
  empty_text : is_quoted (codes "") ≡ true
  space_before : is_quoted (codes " a") ≡ true
  space_after : is_quoted (codes "a ") ≡ true
  space_alone : is_quoted (codes " ") ≡ true
  space_inside : is_quoted (codes "a b") ≡ false
  ampersand_first : is_quoted (codes "&a") ≡ true
  asterisk_first : is_quoted (codes "*a") ≡ true
  question_mark_first : is_quoted (codes "?a") ≡ true
  bar_first : is_quoted (codes "|a") ≡ true
  dash_first : is_quoted (codes "-a") ≡ true
  less_first : is_quoted (codes "<a") ≡ true
  greater_first : is_quoted (codes ">a") ≡ true
  equals_first : is_quoted (codes "=a") ≡ true
  exclamation_mark_first : is_quoted (codes "!a") ≡ true
  percent_first : is_quoted (codes "%a") ≡ true
  at_sign_first : is_quoted (codes "@a") ≡ true
  point_first : is_quoted (codes ".a") ≡ true
  indicator_inside : is_quoted (codes "a&*?|-<>=!%@.") ≡ false
  hexadecimal_mark_first : is_quoted (codes "0xyz") ≡ true
  zero_first : is_quoted (codes "0y") ≡ false
  colon_inside : is_quoted (codes "a:b") ≡ true
  open_brace_inside : is_quoted (codes "a{b") ≡ true
  close_brace_inside : is_quoted (codes "a}b") ≡ true
  open_bracket_inside : is_quoted (codes "a[b") ≡ true
  close_bracket_inside : is_quoted (codes "a]b") ≡ true
  comma_inside : is_quoted (codes "a,b") ≡ true
  number_sign_inside : is_quoted (codes "a#b") ≡ true
  backquote_inside : is_quoted (codes "a`b") ≡ true
  double_quote_inside : is_quoted (codes "a\"b") ≡ true
  single_quote_inside : is_quoted (codes "a'b") ≡ true
  backslash_inside : is_quoted (codes "a\\b") ≡ true
  tab_inside : is_quoted (codes "a\tb") ≡ true
  line_feed_inside : is_quoted (codes "a\nb") ≡ true
  carriage_return_inside : is_quoted (codes "a\rb") ≡ true
  code_0 : is_quoted (97 ∷ 0 ∷ []) ≡ true
  code_6 : is_quoted (97 ∷ 6 ∷ []) ≡ true
  code_7 : is_quoted (97 ∷ 7 ∷ []) ≡ false
  code_8 : is_quoted (97 ∷ 8 ∷ []) ≡ false
  code_11 : is_quoted (97 ∷ 11 ∷ []) ≡ false
  code_12 : is_quoted (97 ∷ 12 ∷ []) ≡ false
  code_14 : is_quoted (97 ∷ 14 ∷ []) ≡ true
  code_26 : is_quoted (97 ∷ 26 ∷ []) ≡ true
  code_27 : is_quoted (97 ∷ 27 ∷ []) ≡ false
  code_28 : is_quoted (97 ∷ 28 ∷ []) ≡ true
  code_31 : is_quoted (97 ∷ 31 ∷ []) ≡ true
  code_127 : is_quoted (97 ∷ 127 ∷ []) ≡ false
  code_20320 : is_quoted (97 ∷ 20320 ∷ []) ≡ false
  true_word : is_quoted (codes "true") ≡ true
  true_capital : is_quoted (codes "True") ≡ true
  false_in_capitals : is_quoted (codes "FALSE") ≡ true
  null_capital : is_quoted (codes "Null") ≡ true
  null_in_capitals : is_quoted (codes "NULL") ≡ true
  tilde : is_quoted (codes "~") ≡ true
  letter_y : is_quoted (codes "y") ≡ true
  letter_n_capital : is_quoted (codes "N") ≡ true
  word_yes : is_quoted (codes "yes") ≡ true
  word_no_in_capitals : is_quoted (codes "NO") ≡ true
  word_on_capital : is_quoted (codes "On") ≡ true
  word_off : is_quoted (codes "off") ≡ true
  yes_in_mixed_case : is_quoted (codes "yEs") ≡ false
  longer_than_yes : is_quoted (codes "yesterday") ≡ false
  inf_word : is_quoted (codes "inf") ≡ true
  inf_in_mixed_case : is_quoted (codes "iNf") ≡ true
  infinity_word : is_quoted (codes "-Infinity") ≡ true
  nan_word : is_quoted (codes "+NAN") ≡ true
  longer_than_inf : is_quoted (codes "info") ≡ false
  infinit : is_quoted (codes "infinit") ≡ false
  integer_text : is_quoted (codes "42") ≡ true
  real_text : is_quoted (codes "2.6") ≡ true
  octal_text : is_quoted (codes "0o52") ≡ true
  two_pluses : is_quoted (codes "++5") ≡ true
  plus_and_minus : is_quoted (codes "+-5") ≡ true
  infinity_text : is_quoted (codes "+.inf") ≡ true
  octal_mark_alone : is_quoted (codes "0o") ≡ false
  eight_in_base_8 : is_quoted (codes "0o8") ≡ false
  underscore : is_quoted (codes "1_000") ≡ false
  date : is_quoted (codes "2014-12-31") ≡ false
  exponent_without_digits : is_quoted (codes "1e") ≡ false

rows : Rows
unfolding is_quoted is_unfit_for_plain typing is_decimal
rows = search
