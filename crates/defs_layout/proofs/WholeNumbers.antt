-- Whole numbers of JSON as integers: what the text of one stands for, and what does not follow its digits.
use Rattle.defs_layout.proofs.Common.{[], arith, at_least_one, begins_in, Bool, false, fits_i64, if◌then◌else◌, integer_value, is_ascii_digit, is_digit, List, list_all, None, Option, option_and_then, signed_decimal, Some, spell_minus, true, ℕ, ℤ, ◌++◌, ◌∷◌, ◌≡◌}

-- the integer of a text, from whether it is all digits, and its value
abbrev pub fitted : Bool → ℤ → Option ℤ
fitted are z = option_and_then (λ y. if fits_i64 y then Some y else None) (if are then Some z else None)

pub signed_text : (m : Bool) (t : List ℕ) → begins_in is_ascii_digit t ≡ true → signed_decimal (spell_minus m t) ≡ fitted (at_least_one (is_digit 10) t) (integer_value m t)
signed_text a t h = grind arith

-- another character after the digits
abbrev pub IsOther : List ℕ → Type 0
IsOther [] = ⊥
IsOther (c ∷ r) = is_digit 10 c ≡ false

some_other : (w r : List ℕ) → IsOther r → list_all (is_digit 10) (w ++ r) ≡ false
some_other [] r h = grind arith
some_other (c ∷ w) r h = grind (arith, some_other w r h)

pub no_digits : (w r : List ℕ) → IsOther r → at_least_one (is_digit 10) (w ++ r) ≡ false
no_digits a r h = grind (arith, some_other)
