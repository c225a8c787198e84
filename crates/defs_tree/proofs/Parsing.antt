-- A signed number is what std's `parse` and `from_str_radix` read at 64 bits, from the bytes of the text. For code that calls them.
use Rattle.std.specs.Int.{w64}
use Rattle.std.proofs.lemmas.Str.{chars-IsAscii, encodes-IsAscii, encodes-chars}
use Rattle.defs_tree.proofs.Common.{[], AllDigits, and_from, and_parts, ap, arith, at_least_one, Bool, chars, digit_value, Err, false, fits_i64, FitsSigned, if◌then◌else◌, is_digit, IsAscii, IsUtf8, List, list_all, lt-ltb, ltb-true, MatchResult, nat_lt, nat_tests, None, Ok, Option, option_and_then, ParsesSigned, refl, Result, signed_digits_value, signed_number, Some, suc, sym, true, true≢false, with_sign, without_leading_sign, zero, ℕ, ℤ, ◌∙◌, ◌∷◌, ◌≡◌, ◌≢◌, ◌≤◌}

-- ---- numerals

pub all_digits-to : (base : ℕ) (ds : List ℕ) → AllDigits base ds → list_all (is_digit base) ds ≡ true
all_digits-to base [] h = refl
all_digits-to base (d ∷ ds) h = and_from (is_digit base d) (list_all (is_digit base) ds) (lt-ltb (digit_value d) base h.0) (all_digits-to base ds h.1)

all_digits-from : (base : ℕ) (ds : List ℕ) → list_all (is_digit base) ds ≡ true → AllDigits base ds
all_digits-from base [] h = tt
all_digits-from base (d ∷ ds) h = grind (arith, and_parts, all_digits-from base ds)

-- ---- signs

with_sign-std : (base : ℕ) (t : List ℕ) → with_sign base t ≡ (if at_least_one (is_digit base) (without_leading_sign t) then Some (signed_digits_value base t) else None)
with_sign-std base a = grind arith

-- ---- within 64 bits

fits-to : (z : ℤ) → FitsSigned w64 z → fits_i64 z ≡ true
fits-to a h = grind arith

fits-from : (z : ℤ) → fits_i64 z ≡ true → FitsSigned w64 z
fits-from a h = grind arith

-- the number of a text, from its digits and its value
abbrev fitting : Bool → ℤ → Option ℤ
fitting is_numeral z = option_and_then (λ y. if fits_i64 y then Some y else None) (if is_numeral then Some z else None)

signed_number-std : (base : ℕ) (t : List ℕ) → signed_number base t ≡ fitting (at_least_one (is_digit base) (without_leading_sign t)) (signed_digits_value base t)
signed_number-std base t = ap (λ o. option_and_then (λ y. if fits_i64 y then Some y else None) o) (with_sign-std base t)

-- on the very list that `parse` is given
pub parsed_signed : {E : Type 0} (base : ℕ) (t : List ℕ) (r : Result ℤ E) → ParsesSigned w64 base t r
    → MatchResult r (λ z. signed_number base t ≡ Some z) (λ e. signed_number base t ≡ None)
parsed_signed base t a h = grind (arith, signed_number-std, fits-to, all_digits-from, fits-from, all_digits-to)

-- ---- bytes and characters

abbrev are_ascii : List ℕ → Bool
are_ascii t = list_all (λ c. nat_lt c 128) t

IsAscii-from : (t : List ℕ) → are_ascii t ≡ true → IsAscii t
IsAscii-from [] h i = omega arith
IsAscii-from (c ∷ cs) h zero = ltb-true c 128 (and_parts (nat_lt c 128) (are_ascii cs) h).0
IsAscii-from (c ∷ cs) h (suc i) = IsAscii-from cs (and_parts (nat_lt c 128) (are_ascii cs) h).1 i

digits_are_ascii : (base : ℕ) (ds : List ℕ) → base ≤ 36 → list_all (is_digit base) ds ≡ true → are_ascii ds ≡ true
digits_are_ascii base [] small h = refl
digits_are_ascii base (d ∷ ds) small h = grind (arith, and_parts, digits_are_ascii base ds small, nat_tests)

no_number : (base : ℕ) (t : List ℕ) → base ≤ 36 → are_ascii t ≡ false → signed_number base t ≡ None
no_number base t small h = signed_number-std base t ∙ by (at_least_one (is_digit base) (without_leading_sign t)) refl
  where
    by : (b : Bool) → at_least_one (is_digit base) (without_leading_sign t) ≡ b → fitting b (signed_digits_value base t) ≡ None
    by a e = grind (arith, digits_are_ascii, and_parts)

-- the bytes of a text and its characters write the same number
pub signed_number-chars : (base : ℕ) (bs : List ℕ) → base ≤ 36 → IsUtf8 bs → signed_number base (chars bs) ≡ signed_number base bs
signed_number-chars base bs small text = by (are_ascii (chars bs)) (are_ascii bs) refl refl
  where
    by : (b d : Bool) → are_ascii (chars bs) ≡ b → are_ascii bs ≡ d → signed_number base (chars bs) ≡ signed_number base bs
    by true d e f = ap (signed_number base) (sym (encodes-IsAscii (chars bs) (IsAscii-from (chars bs) e)) ∙ encodes-chars bs text)
    by false true e f = ap (signed_number base) (chars-IsAscii bs (IsAscii-from bs f))
    by false false e f = no_number base (chars bs) small e ∙ sym (no_number base bs small f)

-- on the bytes of a text
pub parsed_text : {E : Type 0} (base : ℕ) (bs : List ℕ) (r : Result ℤ E) → base ≤ 36 → IsUtf8 bs → ParsesSigned w64 base bs r
    → MatchResult r (λ z. signed_number base (chars bs) ≡ Some z) (λ e. signed_number base (chars bs) ≡ None)
parsed_text {E} base bs (Ok z) small text h = signed_number-chars base bs small text ∙ parsed_signed {E = E} base bs (Ok z) h
parsed_text {E} base bs (Err e) small text h = signed_number-chars base bs small text ∙ parsed_signed {E = E} base bs (Err e) h
