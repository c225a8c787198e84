-- The decimal grammar, real texts and signed decimal numbers, worked.
use Rattle.defs_tree.proofs.Common.{codes, false, is_decimal, is_real_text, negsuc, None, pos, signed_decimal, Some, true, typing, ◌≡◌}

record Rows : Type 0 where
  decimal_grammar_decimal_digits : is_decimal (codes "12") ≡ true
  decimal_grammar_decimal_with_point : is_decimal (codes "1.5") ≡ true
  decimal_grammar_point_after : is_decimal (codes "5.") ≡ true
  decimal_grammar_point_before : is_decimal (codes ".5") ≡ true
  decimal_grammar_signed : is_decimal (codes "+1.5e-7") ≡ true
  decimal_grammar_point_alone : is_decimal (codes ".") ≡ false
  decimal_grammar_nothing : is_decimal (codes "") ≡ false
  decimal_grammar_sign_alone : is_decimal (codes "-") ≡ false
  decimal_grammar_exponent_without_digits : is_decimal (codes "1e") ≡ false
  decimal_grammar_two_signs : is_decimal (codes "--1") ≡ false
  decimal_grammar_letter : is_decimal (codes "1a") ≡ false
  decimal_grammar_inf : is_decimal (codes ".inf") ≡ false
  decimal_grammar_exponent_alone : is_decimal (codes "e1") ≡ false
  decimal_grammar_capital_exponent : is_decimal (codes "1E5") ≡ true
  real_text_real : is_real_text (codes "1.5") ≡ true
  real_text_special_word : is_real_text (codes "-.inf") ≡ true
  real_text_great_integer : is_real_text (codes "9223372036854775808") ≡ true
  real_text_integer : is_real_text (codes "12") ≡ false
  real_text_word : is_real_text (codes "inf") ≡ false
  real_text_null : is_real_text (codes "") ≡ false
  signed_decimal_number : signed_decimal (codes "42") ≡ Some (pos 42)
  signed_decimal_plus : signed_decimal (codes "+42") ≡ Some (pos 42)
  signed_decimal_minus : signed_decimal (codes "-42") ≡ Some (negsuc 41)
  signed_decimal_two_signs : signed_decimal (codes "++5") ≡ None
  signed_decimal_hexadecimal : signed_decimal (codes "0x2A") ≡ None
  signed_decimal_nothing : signed_decimal (codes "") ≡ None
  signed_decimal_sign_alone : signed_decimal (codes "-") ≡ None
  signed_decimal_greatest : signed_decimal (codes "9223372036854775807") ≡ Some (pos 9223372036854775807)
  signed_decimal_above_the_greatest : signed_decimal (codes "9223372036854775808") ≡ None
  signed_decimal_least : signed_decimal (codes "-9223372036854775808") ≡ Some (negsuc 9223372036854775807)
  signed_decimal_below_the_least : signed_decimal (codes "-9223372036854775809") ≡ None
  signed_decimal_real : signed_decimal (codes "1.0") ≡ None
  signed_decimal_zero : signed_decimal (codes "-0") ≡ Some (pos 0)

rows : Rows
unfolding typing is_decimal
rows = search
