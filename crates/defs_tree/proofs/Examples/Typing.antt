-- What texts stand for, worked.
use Rattle.defs_tree.proofs.Common.{boolean, codes, false, integer, is_decimal, negsuc, null, real, true, typing, ◌≡◌}
use Rattle.defs_tree.proofs.TreeWords.{text, number}

record Rows : Type 0 where
  hexadecimal_is_read : typing (codes "0x2A") ≡ number 42
  hexadecimal_in_lower_case : typing (codes "0x2a") ≡ number 42
  octal_is_read : typing (codes "0o52") ≡ number 42
  decimal_is_read : typing (codes "42") ≡ number 42
  sign_after_the_octal_mark : typing (codes "0o-7") ≡ integer (negsuc 6)
  sign_after_the_hexadecimal_mark : typing (codes "0x+f") ≡ number 15
  two_pluses : typing (codes "++5") ≡ number 5
  plus_and_minus : typing (codes "+-5") ≡ integer (negsuc 4)
  one_plus : typing (codes "+7") ≡ number 7
  minus : typing (codes "-7") ≡ integer (negsuc 6)
  minus_zero : typing (codes "-0") ≡ number 0
  leading_zeros : typing (codes "007") ≡ number 7
  greatest_integer : typing (codes "9223372036854775807") ≡ number 9223372036854775807
  least_integer : typing (codes "-9223372036854775808") ≡ integer (negsuc 9223372036854775807)
  least_integer_in_base_16 : typing (codes "0x-8000000000000000") ≡ integer (negsuc 9223372036854775807)
  above_the_greatest_integer : typing (codes "9223372036854775808") ≡ real (codes "9223372036854775808")
  below_the_least_integer : typing (codes "-9223372036854775809") ≡ real (codes "-9223372036854775809")
  great_exponent : typing (codes "1e400") ≡ real (codes "1e400")
  no_digits_before_the_point : typing (codes ".5") ≡ real (codes ".5")
  no_digits_after_the_point : typing (codes "5.") ≡ real (codes "5.")
  point_and_exponent : typing (codes "1.e5") ≡ real (codes "1.e5")
  sign_and_no_digits_before_the_point : typing (codes "+.5") ≡ real (codes "+.5")
  digits_on_both_sides : typing (codes "2.6") ≡ real (codes "2.6")
  signed_exponent : typing (codes "-1.5E-10") ≡ real (codes "-1.5E-10")
  infinity : typing (codes ".inf") ≡ real (codes ".inf")
  infinity_below : typing (codes "-.inf") ≡ real (codes "-.inf")
  infinity_with_plus : typing (codes "+.INF") ≡ real (codes "+.INF")
  not_a_number : typing (codes ".NaN") ≡ real (codes ".NaN")
  hexadecimal_mark_alone : typing (codes "0x") ≡ text "0x"
  plus_alone : typing (codes "+") ≡ text "+"
  minus_alone : typing (codes "-") ≡ text "-"
  point_alone : typing (codes ".") ≡ text "."
  minus_before_the_hexadecimal_mark : typing (codes "-0x1") ≡ text "-0x1"
  word_of_another_case : typing (codes "Null") ≡ text "Null"
  inf_without_point : typing (codes "inf") ≡ text "inf"
  underscore : typing (codes "1_000") ≡ text "1_000"
  above_the_greatest_in_base_16 : typing (codes "0x8000000000000000") ≡ text "0x8000000000000000"
  eight_in_base_8 : typing (codes "0o8") ≡ text "0o8"
  plus_before_the_hexadecimal_mark : typing (codes "+0x10") ≡ text "+0x10"
  two_minuses : typing (codes "--5") ≡ text "--5"
  exponent_without_digits : typing (codes "1e") ≡ text "1e"
  signed_not_a_number : typing (codes "+.nan") ≡ text "+.nan"
  not_a_number_of_another_case : typing (codes ".nAn") ≡ text ".nAn"
  exponent_alone : typing (codes "e5") ≡ text "e5"
  point_and_exponent_alone : typing (codes ".e5") ≡ text ".e5"
  two_points : typing (codes "1.2.3") ≡ text "1.2.3"
  space_before : typing (codes " 1") ≡ text " 1"
  nan : typing (codes "nan") ≡ text "nan"
  nan_in_upper_case : typing (codes "NAN") ≡ text "NAN"
  nan_mixed : typing (codes "NaN") ≡ text "NaN"
  infinity_in_letters : typing (codes "infinity") ≡ text "infinity"
  infinity_capital : typing (codes "Infinity") ≡ text "Infinity"
  signed_inf : typing (codes "+inf") ≡ text "+inf"
  signed_nan : typing (codes "-NaN") ≡ text "-NaN"
  signed_infinity : typing (codes "-Infinity") ≡ text "-Infinity"
  word : typing (codes "a b") ≡ text "a b"
  beginning_of_true : typing (codes "tru") ≡ text "tru"
  longer_than_true : typing (codes "trues") ≡ text "trues"
  empty_is_null : typing (codes "") ≡ null
  tilde_is_null : typing (codes "~") ≡ null
  null_word : typing (codes "null") ≡ null
  boolean_true : typing (codes "true") ≡ boolean true
  boolean_true_capital : typing (codes "True") ≡ boolean true
  boolean_true_in_capitals : typing (codes "TRUE") ≡ boolean true
  boolean_false : typing (codes "false") ≡ boolean false
  boolean_false_capital : typing (codes "False") ≡ boolean false
  boolean_false_in_capitals : typing (codes "FALSE") ≡ boolean false

rows : Rows
unfolding typing is_decimal
rows = search
