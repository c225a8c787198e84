-- The scalars that are spelt without quotes, as texts that a plain scalar may be.
use Rattle.proof_loads.proofs.Common.{[], AllDigits, and_from, and_parts, arith, Bool, codes, decimal, decimal_is_IsNumeral, digit_from_value, ends_with, ends_with-one, ends_with-step, false, has_indicator_first, is_decimal, is_quoted, is_real_character, is_real_text, is_unfit_for_plain, IsNumeral, IsPlain, List, list_all, list_any, ltb-true, nat_eq, nat_le, nat_tests, ne_eqb, not, or_parts, real, real_text-characters, refl, spelling, suc, Tree, true, typing, unquoted, ℕ, ◌&&◌, ◌==◌, ◌||◌, ◌∷◌, ◌≡◌, ◌≤◌, list_all-more, is_blank_or_end, is_flow, is_blank, is_break, is_nul, is_one_of}
use Rattle.defs_tree.specs.Quoting.{begins_with}
use Rattle.defs_tree.proofs.DecimalReading.{is_decimal-read}
use Rattle.defs_tree.proofs.TypingLaws.{real_text-cases}

-- a character that may stand in a plain scalar of a line
abbrev pub is_plain_char : ℕ → Bool
is_plain_char c = not ((c == 0) || (c == 9) || (c == 10) || (c == 13) || (c == 35) || (c == 58))

abbrev pub are_plain : List ℕ → Bool
are_plain w = list_all is_plain_char w

-- it doesn't end in a space; the flag says that one came last
abbrev pub closes : Bool → List ℕ → Bool
closes b [] = not b
closes b (c ∷ w) = closes (c == 32) w

-- a character with which a plain scalar may begin: neither white space nor an indicator, but for a dash
abbrev pub is_first : ℕ → Bool
is_first c =
    is_plain_char c && not ((c == 32) || (c == 37) || (c == 63) || (c == 44) || (c == 91) || (c == 93) || (c == 123) || (c == 125) || (c == 42) || (c == 38) || (c == 33) || (c == 124) || (c == 62) || (c == 39) || (c == 34) || (c == 64) || (c == 96))

-- It begins with neither two dashes nor two points, and doesn't begin with a dash or point alone.
abbrev pub is_second : ℕ → List ℕ → Bool
is_second c [] = not (c == 45) && not (c == 46)
is_second c (d ∷ v) = not ((c == 45) && (d == 45)) && not ((c == 46) && (d == 46)) && not ((c == 45) && (d == 32))

pub record IsPlainFrom (head : ℕ) (tail : List ℕ) : Type 0 where
  pub first : is_first head ≡ true
  pub second : is_second head tail ≡ true
  pub chars : are_plain tail ≡ true
  pub close : closes false tail ≡ true

abbrev pub IsPlainText : List ℕ → Type 0
IsPlainText [] = ⊥
IsPlainText (c ∷ w) = IsPlainFrom c w

-- ---- words

-- a digit, a letter, or one of `+ - .`
abbrev pub is_word : ℕ → Bool
is_word c = (nat_le 48 c && nat_le c 57) || (c == 43) || (c == 45) || (c == 46) || (nat_le 65 c && nat_le c 90) || (nat_le 97 c && nat_le c 122)

-- each character is one
abbrev pub are_words : List ℕ → Bool
are_words w = list_all is_word w

abbrev pub begins_word : List ℕ → Bool
begins_word [] = false
begins_word (c ∷ w) = is_second c w

-- the words of JSON and its numbers, integers and reals
pub record IsWord (w : List ℕ) : Type 0 where
  pub chars : are_words w ≡ true
  pub begins : begins_word w ≡ true

word_char : (c : ℕ) → is_word c ≡ true → (is_plain_char c ≡ true) × ((c == 32) ≡ false) × (is_first c ≡ true)
word_char c h = (grind (arith, nat_tests), grind (arith, nat_tests), grind (arith, nat_tests))

words_plain : (w : List ℕ) → are_words w ≡ true → (are_plain w ≡ true) × (closes false w ≡ true)
words_plain [] h = (refl, refl)
words_plain (c ∷ w) h = grind (arith, and_parts, word_char, words_plain w)

pub word_text : (w : List ℕ) → IsWord w → IsPlainText w
word_text w h = grind (arith, and_parts, is_word, are_words, words_plain, word_char)

-- ---- what a plain scalar doesn't begin with

pub first_char : (c : ℕ) → is_first c ≡ true → (is_plain_char c ≡ true) × ((c == 32) ≡ false) × ((c == 63) ≡ false) × (is_one_of (codes "|>") c ≡ false) × ((is_blank_or_end c || is_flow c || is_one_of (codes "#&*!%@`'\"") c) ≡ false)
unfolding is_blank_or_end is_flow is_blank is_break is_nul
first_char c h = (grind (arith, nat_tests), grind (arith, nat_tests), grind (arith, nat_tests), grind (arith, nat_tests), grind (arith, nat_tests))

-- ---- strings

fit_chars : (w : List ℕ) → list_any is_unfit_for_plain w ≡ false → are_plain w ≡ true
unfolding is_unfit_for_plain
fit_chars [] h = refl
fit_chars (c ∷ w) h = let q = or_parts (is_unfit_for_plain c) (list_any is_unfit_for_plain w) h in and_from _ _ (grind (arith, nat_tests)) (fit_chars w q.1)

no_last_space : (c : ℕ) (w : List ℕ) → ends_with nat_eq (c ∷ w) (codes " ") ≡ false → closes (c == 32) w ≡ true
no_last_space c [] h = let e : (32 == c) ≡ false = cc (ends_with-one 32 c, h) in grind (arith, nat_tests)
no_last_space c (d ∷ w) h = no_last_space d w (cc (ends_with-step 32 c d w, h))

first_fits : (c : ℕ) (w : List ℕ) → is_unfit_for_plain c ≡ false → has_indicator_first (c ∷ w) ≡ false → begins_with (codes " ") (c ∷ w) ≡ false → is_first c ≡ true
unfolding is_unfit_for_plain
first_fits c w h e f = grind (arith, nat_tests)

string_plain : (s : List ℕ) → is_quoted s ≡ false → IsPlainText s
string_plain [] h = let z = unquoted [] h in let e = z.nonempty in cc
string_plain (c ∷ w) h =
    let z = unquoted (c ∷ w) h in
    let fit = or_parts (is_unfit_for_plain c) (list_any is_unfit_for_plain w) z.fit in
    let outer = or_parts (begins_with (codes " ") (c ∷ w)) (ends_with nat_eq (c ∷ w) (codes " ")) z.no_outer_space in
    let first = first_fits c w fit.0 z.no_indicator_first outer.0 in
    record {
      first = first;
      second = let indicator = z.no_indicator_first in grind (arith, nat_tests);
      chars = fit_chars w fit.1;
      close = rw (first_char c first).1 at (no_last_space c w outer.1);
    }

-- ---- integers

digits_words : (ds : List ℕ) → AllDigits 10 ds → are_words ds ≡ true
digits_words [] h = refl
digits_words (d ∷ ds) h = let range : (48 ≤ d) × (d ≤ 57) = digit_from_value d h.0 in and_from _ _ (grind (arith, nat_tests)) (digits_words ds h.1)

numeral_plain : (ds : List ℕ) → IsNumeral 10 ds → IsPlainText ds
numeral_plain [] h = absurd (omega (arith, h.0))
numeral_plain (d ∷ ds) h =
    let range : (48 ≤ d) × (d ≤ 57) = digit_from_value d h.1.0 in
    word_text (d ∷ ds) (record { chars = digits_words (d ∷ ds) h.1; begins = (grind arith) })

negative_plain : (ds : List ℕ) → IsNumeral 10 ds → IsPlainText (45 ∷ ds)
negative_plain [] h = absurd (omega (arith, h.0))
negative_plain (d ∷ ds) h = let range : (48 ≤ d) × (d ≤ 57) = digit_from_value d h.1.0 in word_text (45 ∷ d ∷ ds) (record { chars = digits_words (d ∷ ds) h.1; begins = (rw (ne_eqb d 45 (λ e. omega arith), ne_eqb d 32 (λ e. omega arith)) refl) })

-- ---- reals

real_words : (w : List ℕ) → list_all is_real_character w ≡ true → are_words w ≡ true
real_words w h = list_all-more is_real_character is_word (λ c e. grind (arith, nat_tests)) w h

real_second : (c : ℕ) (w : List ℕ) → is_real_text (c ∷ w) ≡ true → list_all is_real_character w ≡ true → is_second c w ≡ true
unfolding typing is_decimal
real_second c [] h e = grind (arith, nat_tests)
real_second c (d ∷ w) h e = let z = real_text-cases (c ∷ d ∷ w) h in let f = is_decimal-read (c ∷ d ∷ w) in grind (arith, nat_tests, and_parts)

-- ---- all of them

pub spelt_plain : (t : Tree) → IsPlain t → IsPlainText (spelling t)
unfolding typing is_decimal
spelt_plain t h = grind (arith, nat_tests, real, real_text-characters, word_text, real_words, real_second, and_parts, is_real_character, list_all, ltb-true, numeral_plain, decimal, decimal_is_IsNumeral, negative_plain, suc, string_plain)
