-- The digits of an integer are a number of JSON, whose value is the integer.
use Rattle.std.specs.Fmt.{signed_decimal}
use Rattle.std.proofs.lemmas.Fmt.{decimal_is_IsNumeral, decimal_digit, decimal_nonempty, first_decimal}
use Rattle.std.proofs.lemmas.Str.Parse.{digit_from_value}
use Rattle.defs_layout.proofs.Common.{[], AllDigits, and_from, and_parts, ap, arith, decimal, false, fits_i64, get_or, integer, is_ascii_digit, is_number, is_whole, length, List, list_all, ltb-true, nat_tests, negsuc, no_exponent, no_fraction, Number, number, number_tree, pos, refl, spell_number, suc, true, zero, ℕ, ℤ, ◌++◌, ◌<◌, ◌^◌, ◌∷◌, ◌≡◌, eqb-true}

digits_test : (ds : List ℕ) → AllDigits 10 ds → list_all is_ascii_digit ds ≡ true
digits_test [] h = refl
digits_test (d ∷ ds) h = let r = digit_from_value d h.0 in and_from _ _ (grind (arith, nat_tests)) (digits_test ds h.1)

-- digits that begin with no zero
whole_test : (ds : List ℕ) → AllDigits 10 ds → 0 < length ds → 48 < get_or ds 0 0 → is_whole ds ≡ true
whole_test a h l f = grind (arith, nat_tests, eqb-true, and_parts, digits_test)

decimal_whole : (n : ℕ) → n < 2 ^ 64 → is_whole (decimal n) ≡ true
decimal_whole zero h = ap is_whole (decimal_digit 0 (omega arith))
decimal_whole (suc n) h = whole_test (decimal (suc n)) (decimal_is_IsNumeral (suc n) h).0.1 (decimal_nonempty (suc n) h) (first_decimal (suc n) (omega arith) h)

-- the number that writes it
pub integer_number : ℤ → Number
integer_number (pos n) = number false (decimal n) no_fraction no_exponent
integer_number (negsuc n) = number true (decimal (suc n)) no_fraction no_exponent

pub record IsInteger (z : ℤ) : Type 0 where
  pub spelt : (r : List ℕ) → spell_number (integer_number z) r ≡ signed_decimal z ++ r
  pub fits : is_number (integer_number z) ≡ true
  pub value : number_tree (integer_number z) ≡ integer z

pub integer_written : (z : ℤ) → fits_i64 z ≡ true → IsInteger z
unfolding integer_number
integer_written (pos n) h =
    let small : n < 2 ^ 63 = ltb-true n (2 ^ 63) h in
    record {
      spelt = λ r. refl;
      fits = and_from _ true (and_from _ true (decimal_whole n (omega arith)) refl) refl;
      value = rw ((decimal_is_IsNumeral n (omega arith)).1, h) refl;
    }
integer_written (negsuc n) h =
    let small : n < 2 ^ 63 = ltb-true n (2 ^ 63) h in
    record {
      spelt = λ r. refl;
      fits = and_from _ true (and_from _ true (decimal_whole (suc n) (omega arith)) refl) refl;
      value = rw ((decimal_is_IsNumeral (suc n) (omega arith)).1, h) refl;
    }
