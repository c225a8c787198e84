-- The words of JSON and its numbers are words.
use Rattle.proof_loads.proofs.Common.{[], and_from, and_parts, append-nil, append_assoc, are_digits, arith, Exponent, Fraction, is_ascii_digit, is_exponent, is_fraction, is_number, is_whole, List, list_all, nat_tests, Number, number, spell_exponent, spell_fraction, spell_minus, spell_number, true, ℕ, ◌++◌, ◌≡◌, list_all-append, list_all-more}
use Rattle.proof_loads.proofs.PlainTexts.{is_word, are_words, IsWord}

digits_words : (w : List ℕ) → list_all is_ascii_digit w ≡ true → are_words w ≡ true
digits_words w h = list_all-more is_ascii_digit is_word (λ c e. grind (arith, nat_tests)) w h

append_words : (w v : List ℕ) → are_words w ≡ true → are_words v ≡ true → are_words (w ++ v) ≡ true
append_words w v h e = rw (list_all-append, h) e

are_digits_words : (w : List ℕ) → are_digits w ≡ true → are_words w ≡ true
are_digits_words a h = grind (arith, digits_words)

-- ---- the parts

-- a number before a text
pub number_then : (n : Number) (r : List ℕ) → spell_number n r ≡ spell_number n [] ++ r
number_then n r = grind (arith, append-nil, append_assoc)

rest_words : (f : Fraction) (e : Exponent) → is_fraction f ≡ true → is_exponent e ≡ true → are_words (spell_fraction f (spell_exponent e [])) ≡ true
rest_words f e h i = grind (arith, append_words, are_digits_words)

whole_digits : (w : List ℕ) → is_whole w ≡ true → are_digits w ≡ true
whole_digits a h = grind (arith, and_from)

pub number_word : (n : Number) → is_number n ≡ true → IsWord (spell_number n [])
number_word n h = grind (arith, nat_tests, number, and_parts, is_whole, is_fraction, is_exponent, whole_digits, spell_minus, append_words, are_digits_words, rest_words)
