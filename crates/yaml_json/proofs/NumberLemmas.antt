-- JSON numbers on the bytes of a text.
use Rattle.std.specs.List.{list_all}
use Rattle.yaml_json.proofs.Common.{[], and_from, and_parts, ap, arith, Bool, chars, chars-IsAscii, encodes-chars, encodes-IsAscii, false, is_ascii_digit, is_err, is_exponent, is_exponent_mark, is_frac, is_json_number, is_json_number-read, is_json_real, is_minus, is_none, is_sign, IsUtf8, List, MatchResult, nat_lt, nat_tests, None, reads_number, refl, Result, Some, sym, true, ℕ, ℤ, ◌&&◌, ◌==◌, ◌∙◌, ◌∷◌, ◌≡◌}
use Rattle.defs_tree.specs.Grammar.{one, at_least_one, optional, in_order}
use Rattle.defs_tree.specs.Typing.{signed_decimal}
use Rattle.defs_tree.proofs.GrammarLaws.{IsWithin, IsWithin-followed_by, IsWithin-empty, IsWithin-one, IsWithin-at_least_one, IsWithin-optional, list_all-more}
use Rattle.defs_layout.specs.JsonNumber.{is_whole, are_digits}
use Rattle.yaml_tree.proofs.WideTexts.{low_at}

abbrev is_low : ℕ → Bool
is_low c = nat_lt c 128

abbrev Fits : (List ℕ → Bool) → Type 0
Fits f = IsWithin is_low f

digit_low : (c : ℕ) → is_ascii_digit c ≡ true → is_low c ≡ true
digit_low c h = grind (arith, nat_tests)

digits_low : Fits are_digits
digits_low a h = grind (arith, list_all-more, digit_low)

whole_low : Fits is_whole
whole_low a h = grind (arith, and_from, digit_low, digits_low)

frac_low : Fits is_frac
frac_low [] h = refl
frac_low (c ∷ w) h = let p = and_parts (c == 46) (are_digits w) h in and_from (is_low c) (list_all is_low w) (grind (arith, nat_tests, p.0)) (digits_low w p.1)

part_low : (f : List ℕ → Bool) (fs : List (List ℕ → Bool)) → Fits f → Fits (λ t. in_order fs t) → Fits (λ t. in_order (f ∷ fs) t)
part_low f fs h e = IsWithin-followed_by is_low f (λ t. in_order fs t) h e

exponent_low : Fits is_exponent
exponent_low =
    part_low (one is_exponent_mark) (optional (one is_sign) ∷ at_least_one is_ascii_digit ∷ []) (IsWithin-one is_low is_exponent_mark (λ c h. grind (arith, nat_tests)))
    (part_low (optional (one is_sign)) (at_least_one is_ascii_digit ∷ []) (IsWithin-optional is_low (one is_sign) (IsWithin-one is_low is_sign (λ c h. grind (arith, nat_tests))))
    (part_low (at_least_one is_ascii_digit) [] (IsWithin-at_least_one is_low is_ascii_digit digit_low) (IsWithin-empty is_low)))

number_low : Fits is_json_number
unfolding is_json_number
number_low =
    part_low (optional (one is_minus)) (is_whole ∷ optional is_frac ∷ optional is_exponent ∷ []) (IsWithin-optional is_low (one is_minus) (IsWithin-one is_low is_minus (λ c h. grind (arith, nat_tests))))
    (part_low is_whole (optional is_frac ∷ optional is_exponent ∷ []) whole_low
    (part_low (optional is_frac) (optional is_exponent ∷ []) (IsWithin-optional is_low is_frac frac_low)
    (part_low (optional is_exponent) [] (IsWithin-optional is_low is_exponent exponent_low) (IsWithin-empty is_low))))

-- the characters of a text are a number exactly if its bytes are
pub is_json_number-chars : (bs : List ℕ) → IsUtf8 bs → is_json_number (chars bs) ≡ is_json_number bs
is_json_number-chars bs u = by (is_json_number (chars bs)) (is_json_number bs) refl refl
  where
    by : (b d : Bool) → is_json_number (chars bs) ≡ b → is_json_number bs ≡ d → is_json_number (chars bs) ≡ is_json_number bs
    by true d e f = ap is_json_number (sym (encodes-IsAscii (chars bs) (low_at (chars bs) (number_low (chars bs) e))) ∙ encodes-chars bs u)
    by false true e f = ap is_json_number (chars-IsAscii bs (low_at bs (number_low bs f)))
    by false false e f = e ∙ sym f

-- a text that is read as a number, and not as an integer
pub real_is : {E : Type 0} (bs : List ℕ) (b e : Bool) (r : Result ℤ E) → IsUtf8 bs → b ≡ reads_number bs → e ≡ is_err r
    → MatchResult r (λ z. signed_decimal (chars bs) ≡ Some z) (λ x. signed_decimal (chars bs) ≡ None) → (b && e) ≡ is_json_real (chars bs)
real_is bs b e a u f g h = grind (arith, is_json_number-read, is_json_number-chars, chars, is_none)

pub no_real : (bs : List ℕ) (b : Bool) → IsUtf8 bs → b ≡ reads_number bs → b ≡ false → b ≡ is_json_real (chars bs)
no_real bs b u f e = e ∙ sym (ap (λ x. x && is_none (signed_decimal (chars bs))) (is_json_number-chars bs u ∙ is_json_number-read bs ∙ sym f ∙ e))
