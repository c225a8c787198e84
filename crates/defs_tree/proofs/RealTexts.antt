-- The characters of a text that stands for a real: it isn't empty, and it has no blank, no break and no indicator but signs.
use Rattle.defs_tree.proofs.Common.{[], and_parts, any_number, arith, at_least_one, Bool, bytes_eq-Decides, codes, false, in_order, inl, inr, is_among, is_ascii_digit, is_decimal, is_empty, is_exponent, is_exponent_mark, is_in, is_mantissa, is_point, is_real_text, is_sign, List, list_all, nat_tests, one, one_of, optional, or_cases, or_left, refl, special_words, true, typing, ℕ, ◌||◌, ◌∷◌, ◌≡◌, ◌⊎◌}
use Rattle.defs_tree.proofs.GrammarLaws.{IsWithin, IsWithin-followed_by, IsWithin-empty, IsWithin-one, IsWithin-any_number, IsWithin-at_least_one, IsWithin-optional, IsWithin-or, IsWithin-none}
use Rattle.defs_tree.proofs.TypingLaws.{real_text-cases}

-- digits, signs, the point, and the letters of the words and of the exponent
abbrev pub is_real_character : ℕ → Bool
is_real_character c = is_ascii_digit c || is_in (codes "+-.eEinfaINFA") c

digit_fits : (c : ℕ) → is_ascii_digit c ≡ true → is_real_character c ≡ true
digit_fits c h = or_left (is_ascii_digit c) (is_in (codes "+-.eEinfaINFA") c) h

sign_fits : (c : ℕ) → is_sign c ≡ true → is_real_character c ≡ true
sign_fits c h = grind (arith, nat_tests)

point_fits : (c : ℕ) → is_point c ≡ true → is_real_character c ≡ true
point_fits c h = grind (arith, nat_tests)

mark_fits : (c : ℕ) → is_exponent_mark c ≡ true → is_real_character c ≡ true
mark_fits c h = grind (arith, nat_tests)

abbrev Fits : (List ℕ → Bool) → Type 0
Fits f = IsWithin is_real_character f

abbrev AllFit : List (List ℕ → Bool) → Type 0
AllFit [] = Unit {0}
AllFit (f ∷ fs) = Fits f × AllFit fs

in_order_fits : (fs : List (List ℕ → Bool)) → AllFit fs → Fits (λ t. in_order fs t)
in_order_fits [] h = IsWithin-empty is_real_character
in_order_fits (f ∷ fs) h = IsWithin-followed_by is_real_character f (λ t. in_order fs t) h.0 (in_order_fits fs h.1)

one_of_fits : (fs : List (List ℕ → Bool)) → AllFit fs → Fits (λ t. one_of fs t)
one_of_fits [] h = IsWithin-none is_real_character
one_of_fits (f ∷ fs) h = IsWithin-or is_real_character f (λ t. one_of fs t) h.0 (one_of_fits fs h.1)

digits_fit : Fits (at_least_one is_ascii_digit)
digits_fit = IsWithin-at_least_one is_real_character is_ascii_digit digit_fits

any_digits_fit : Fits (any_number is_ascii_digit)
any_digits_fit = IsWithin-any_number is_real_character is_ascii_digit digit_fits

optional_sign_fits : Fits (optional (one is_sign))
optional_sign_fits = IsWithin-optional is_real_character (one is_sign) (IsWithin-one is_real_character is_sign sign_fits)

exponent_fits : Fits is_exponent
exponent_fits =
    in_order_fits (one is_exponent_mark ∷ optional (one is_sign) ∷ at_least_one is_ascii_digit ∷ [])
    (IsWithin-one is_real_character is_exponent_mark mark_fits, (optional_sign_fits, (digits_fit, tt)))

first_mantissa : List (List ℕ → Bool)
first_mantissa = at_least_one is_ascii_digit ∷ one is_point ∷ any_number is_ascii_digit ∷ []

late_mantissa : List (List ℕ → Bool)
late_mantissa = any_number is_ascii_digit ∷ one is_point ∷ at_least_one is_ascii_digit ∷ []

mantissa_fits : Fits is_mantissa
unfolding first_mantissa late_mantissa
mantissa_fits =
    let point = IsWithin-one is_real_character is_point point_fits in
    let first = in_order_fits first_mantissa (digits_fit, (point, (any_digits_fit, tt))) in
    let late = in_order_fits late_mantissa (any_digits_fit, (point, (digits_fit, tt))) in
    one_of_fits (at_least_one is_ascii_digit ∷ in_order first_mantissa ∷ in_order late_mantissa ∷ []) (digits_fit, (first, (late, tt)))

pub decimal-characters : (t : List ℕ) → is_decimal t ≡ true → list_all is_real_character t ≡ true
unfolding is_decimal
decimal-characters =
    in_order_fits (optional (one is_sign) ∷ is_mantissa ∷ optional is_exponent ∷ [])
    (optional_sign_fits, (mantissa_fits, (IsWithin-optional is_real_character is_exponent exponent_fits, tt)))

words-characters : (ws : List (List ℕ)) (t : List ℕ) → list_all (λ w. list_all is_real_character w) ws ≡ true → is_among ws t ≡ true → list_all is_real_character t ≡ true
words-characters [] t h e = cc
words-characters (w ∷ ws) t h e = grind (arith, and_parts, or_cases, bytes_eq-Decides, words-characters ws t)

pub real_text-characters : (t : List ℕ) → is_real_text t ≡ true → list_all is_real_character t ≡ true
real_text-characters t h = by (real_text-cases t h)
  where
    by : (is_among special_words t ≡ true) ⊎ (is_decimal t ≡ true) → list_all is_real_character t ≡ true
    by (inl is) = words-characters special_words t refl is
    by (inr is) = decimal-characters t is

pub real_text-nonempty : (t : List ℕ) → is_real_text t ≡ true → is_empty t ≡ false
unfolding typing is_decimal
real_text-nonempty a h = grind arith
