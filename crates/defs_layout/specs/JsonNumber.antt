-- JSON numbers, as they are written: a minus or none, the whole part, a fraction or none, an exponent or none.
-- RFC 8259, section 6.
use Rattle.std.specs.Prelude.{ℕ, ℤ, List, [], ◌∷◌, ◌++◌, Bool, true, false, not, ◌&&◌, ◌==◌, pos, neg_ℤ, if◌then◌else◌}
use Rattle.std.specs.Char.{is_ascii_digit}
use Rattle.std.specs.List.{list_all}
use Rattle.std.specs.Str.Parse.{digits_value}
use Rattle.defs_tree.specs.Tree.{Tree}
use Rattle.defs_tree.specs.Typing.{fits_i64}
use Rattle.defs_layout.specs.Marks.{dash, digit_zero, plus_sign, point}

-- a point and digits, or nothing
pub data Fraction : Type 0 where
  no_fraction : Fraction
  fraction : (digits : List ℕ) → Fraction

-- what stands before the exponent's digits
pub data Sign : Type 0 where
  no_sign : Sign
  plus : Sign
  minus : Sign

-- `e` or `E`, a sign or none, and digits; or nothing
pub data Exponent : Type 0 where
  no_exponent : Exponent
  exponent : (is_capital : Bool) → Sign → (digits : List ℕ) → Exponent

-- a number, as it is written
pub data Number : Type 0 where
  number : (is_negative : Bool) → (whole : List ℕ) → Fraction → Exponent → Number

-- ---- the text, before the rest r

-- `-`, where it is negative
abbrev pub spell_minus : Bool → List ℕ → List ℕ
spell_minus true r = dash ∷ r
spell_minus false r = r

-- a point and the digits
abbrev pub spell_fraction : Fraction → List ℕ → List ℕ
spell_fraction no_fraction r = r
spell_fraction (fraction digits) r = point ∷ (digits ++ r)

-- `+`, `-` or nothing
abbrev pub spell_sign : Sign → List ℕ → List ℕ
spell_sign no_sign r = r
spell_sign plus r = plus_sign ∷ r
spell_sign minus r = dash ∷ r

-- `E` or `e`
abbrev pub letter_e : Bool → ℕ
letter_e true = 69
letter_e false = 101

-- the letter, the sign and the digits
abbrev pub spell_exponent : Exponent → List ℕ → List ℕ
spell_exponent no_exponent r = r
spell_exponent (exponent is_capital s digits) r = letter_e is_capital ∷ spell_sign s (digits ++ r)

-- a number
abbrev pub spell_number : Number → List ℕ → List ℕ
spell_number (number is_negative whole f e) r = spell_minus is_negative (whole ++ spell_fraction f (spell_exponent e r))

-- ---- which are numbers

-- at least one digit
abbrev pub are_digits : List ℕ → Bool
are_digits [] = false
are_digits (c ∷ w) = is_ascii_digit c && list_all is_ascii_digit w

-- `0` alone, or digits that do not begin with `0`
abbrev pub is_whole : List ℕ → Bool
is_whole [] = false
is_whole (c ∷ []) = is_ascii_digit c
is_whole (c ∷ d ∷ w) = not (c == digit_zero) && are_digits (c ∷ d ∷ w)

-- at least one digit after the point
abbrev pub is_fraction : Fraction → Bool
is_fraction no_fraction = true
is_fraction (fraction digits) = are_digits digits

-- at least one digit after the letter and the sign
abbrev pub is_exponent : Exponent → Bool
is_exponent no_exponent = true
is_exponent (exponent is_capital s digits) = are_digits digits

-- each part is as the grammar has it
abbrev pub is_number : Number → Bool
is_number (number is_negative whole f e) = is_whole whole && is_fraction f && is_exponent e

-- ---- the value

-- the number, where there is no fraction and no exponent
abbrev pub integer_value : (is_negative : Bool) → (whole : List ℕ) → ℤ
integer_value true whole = neg_ℤ (pos (digits_value 10 whole))
integer_value false whole = pos (digits_value 10 whole)

-- an integer, where there is no fraction and no exponent and it fits 64 bits; else a real of the text
abbrev pub number_tree : Number → Tree
number_tree (number is_negative whole no_fraction no_exponent) =
    if fits_i64 (integer_value is_negative whole)
    then Tree.integer (integer_value is_negative whole)
    else Tree.real (spell_number (number is_negative whole no_fraction no_exponent) [])
number_tree (number is_negative whole no_fraction (exponent is_capital s digits)) =
    Tree.real (spell_number (number is_negative whole no_fraction (exponent is_capital s digits)) [])
number_tree (number is_negative whole (fraction digits) e) = Tree.real (spell_number (number is_negative whole (fraction digits) e) [])
