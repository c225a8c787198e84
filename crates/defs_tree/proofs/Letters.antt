-- A text of one letter many times over is a string that isn't quoted: an example at the limit of a key's length.
use Rattle.std.specs.Str.{str_to_ascii_lowercase}
use Rattle.defs_tree.proofs.Common.{[], arith, Bool, codes, cond-false, ends_with, false, in_order, is_among, is_float_word, is_quoted, is_sign, is_unfit_for_plain, List, list_any, nat_eq, nat_tests, refl, replicate, spelling, string, suc, true, typing, zero, ℕ, ◌==◌, ◌∙◌, ◌∷◌, ◌≡◌}
use Rattle.defs_tree.proofs.DecimalReading.{is_decimal-read}
use Rattle.defs_tree.proofs.GrammarLaws.{optional_one-after, followed_by-empty, Rejects}
use Rattle.defs_tree.proofs.LinesLaws.{ends_with-step}

no_space_at_end : (n : ℕ) → ends_with nat_eq (replicate (suc n) 97) (codes " ") ≡ false
no_space_at_end zero = refl
no_space_at_end (suc n) = ends_with-step 32 97 97 (replicate n 97) ∙ no_space_at_end n

all_fit : (n : ℕ) → list_any is_unfit_for_plain (replicate n 97) ≡ false
unfolding is_unfit_for_plain
all_fit zero = refl
all_fit (suc n) = all_fit n

abbrev float_words : List ℕ → Bool
float_words t = in_order (is_among (codes "inf" ∷ codes "infinity" ∷ codes "nan" ∷ []) ∷ []) t

float_words-is : (t : List ℕ) → float_words t ≡ is_among (codes "inf" ∷ codes "infinity" ∷ codes "nan" ∷ []) t
float_words-is t = followed_by-empty (is_among (codes "inf" ∷ codes "infinity" ∷ codes "nan" ∷ [])) t

sign_no_i : (c : ℕ) → is_sign c ≡ true → (105 == c) ≡ false
sign_no_i c h = grind (arith, nat_tests)

sign_no_n : (c : ℕ) → is_sign c ≡ true → (110 == c) ≡ false
sign_no_n c h = grind (arith, nat_tests)

words_reject_sign : Rejects is_sign float_words
words_reject_sign c cs h = float_words-is (c ∷ cs) ∙ rw (sign_no_i c h, sign_no_n c h) refl

no_float_word : (cs : List ℕ) → is_float_word (97 ∷ cs) ≡ false
no_float_word cs = optional_one-after is_sign float_words words_reject_sign (97 ∷ str_to_ascii_lowercase cs) ∙ float_words-is (97 ∷ str_to_ascii_lowercase cs)

letter_first : (cs : List ℕ) → typing (97 ∷ cs) ≡ string (97 ∷ cs)
unfolding typing
letter_first cs = rw (is_decimal-read (97 ∷ cs)) refl

pub letters_unquoted : (n : ℕ) → is_quoted (replicate (suc n) 97) ≡ false
unfolding is_quoted
letters_unquoted n = rw (no_space_at_end n, all_fit (suc n), no_float_word (replicate n 97), letter_first (replicate n 97)) refl

pub letters_spelling : (n : ℕ) → spelling (string (replicate (suc n) 97)) ≡ replicate (suc n) 97
letters_spelling n = cond-false (is_quoted (replicate (suc n) 97)) _ (replicate (suc n) 97) (letters_unquoted n)
