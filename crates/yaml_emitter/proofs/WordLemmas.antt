-- The words that are quoted.
use Rattle.yaml_emitter.proofs.Common.{[], after_one, all_upto, ap, arith, begins_plainly, begins_with, bit_or, Bool, bytes_eq-Decides, chars, chars-nil, chars_past_char, codes, each_upto, encode_ascii, encodes-chars, ends_with, false, false_from_ne_true, float_names, followed_by-empty, has_indicator_first, has_outer_space, if◌then◌else◌, is_empty, is_float_word, is_in, is_name, is_plain_letter, is_plain_small, is_quoted, is_sign, is_string, is_unfit, is_unfit_for_plain, is_word, IsUtf8, length, List, list_any, map, nat_eq, nat_tests, not, optional_one-after, refl, reserved_words, same, same_is, subst, sym, T, to_ascii_lowercase, true, true≢false, typing, ℕ, ◌&&◌, ◌++◌, ◌<◌, ◌==◌, ◌||◌, ◌∙◌, ◌∷◌, ◌≡◌, ◌≤◌}
use Rattle.defs_tree.specs.Grammar.{is_among, followed_by}
use Rattle.yaml_tree.proofs.FirstByte.{typing_itself}
use Rattle.yaml_tree.specs.Values.{begins_value}
use Rattle.yaml_tree.proofs.TypingLemmas.{not_among}
use Rattle.yaml_tree.proofs.WideTexts.{low, low_bytes}
use Rattle.yaml_emitter.proofs.ByteLemmas.{ascii_low, low_chars}

-- ---- names of numbers

same_sign : (c : ℕ) → is_sign (to_ascii_lowercase c) ≡ is_sign c
same_sign c = grind (arith, nat_tests)

lower_after : (t : List ℕ) → after_one is_sign (map to_ascii_lowercase t) ≡ map to_ascii_lowercase (after_one is_sign t)
lower_after a = grind (arith, same_sign)

pub float_word : (t : List ℕ) → is_float_word t ≡ is_among float_names (map to_ascii_lowercase (after_one is_sign t))
float_word t =
    optional_one-after is_sign (λ x. followed_by (is_among float_names) is_empty x)
    (λ c cs e. followed_by-empty (is_among float_names) (c ∷ cs) ∙ grind (arith, nat_tests)) (map to_ascii_lowercase t)
    ∙ followed_by-empty (is_among float_names) (after_one is_sign (map to_ascii_lowercase t))
    ∙ ap (is_among float_names) (lower_after t)

-- ---- texts that aren't ASCII

lower_low : (t : List ℕ) → low (map to_ascii_lowercase t) ≡ low t
lower_low [] = refl
lower_low (c ∷ cs) = grind (arith, nat_tests, lower_low cs)

after_low : (t : List ℕ) → low (after_one is_sign t) ≡ low t
after_low a = grind (arith, nat_tests)

wide_float : (t : List ℕ) → low t ≡ false → is_float_word t ≡ false
wide_float t w =
    float_word t
    ∙ not_among low float_names refl (map to_ascii_lowercase (after_one is_sign t)) (lower_low (after_one is_sign t) ∙ after_low t ∙ w)

-- the names are the same by bytes and by characters
pub name_of_bytes : (bs : List ℕ) → IsUtf8 bs → is_name bs ≡ is_name (chars bs)
name_of_bytes bs u = by (low bs) refl
  where
    wide_name : (t : List ℕ) → low t ≡ false → is_name t ≡ false
    wide_name t w = λ i. not_among low reserved_words refl t w i || wide_float t w i

    by : (b : Bool) → low bs ≡ b → is_name bs ≡ is_name (chars bs)
    by true e = ap is_name (sym (low_chars bs e))
    by false e =
        wide_name bs e ∙ sym (wide_name (chars bs) (false_from_ne_true _ (λ h. true≢false (sym (ascii_low bs (low_bytes bs u h)) ∙ e))))

pub word_of_bytes : (bs : List ℕ) → IsUtf8 bs → (is_name bs || not (is_string (typing (chars bs)))) ≡ is_word (chars bs)
word_of_bytes bs u = ap (λ b. b || not (is_string (typing (chars bs)))) (name_of_bytes bs u)

-- ---- the whole test

regroup : (a b c d e f g h : Bool) → ((a || b || c || d || e) || ((f || g) || h)) ≡ (a || b || c || d || e || f || g || h)
regroup i b c d e f g h = grind arith

pub quoted : (t : List ℕ) → is_quoted t ≡ (is_unfit t || is_word t)
unfolding is_quoted
quoted t = sym (regroup (is_empty t) (has_outer_space t) (has_indicator_first t) _ (list_any is_unfit_for_plain t) (is_among reserved_words t) (is_float_word t) (not (is_string (typing t))))

pub empty_text : (bs : List ℕ) → IsUtf8 bs → (length bs == 0) ≡ is_empty (chars bs)
empty_text [] u = ap is_empty (sym chars-nil)
empty_text (b ∷ bs) u = grind (arith, nat_tests, encodes-chars (b ∷ bs) u)

pub wide_fits : (c : ℕ) → 128 ≤ c → is_unfit_for_plain c ≡ false
unfolding is_unfit_for_plain
wide_fits c h = grind (arith, nat_tests)

-- ---- a text that begins with a plain letter

-- the first character is one of these
abbrev begins : (ℕ → Bool) → List ℕ → Bool
begins q [] = false
begins q (d ∷ ds) = q d

abbrev reserved_first : ℕ → Bool
reserved_first c = is_in (codes "~tTfFnNyYoO") c

abbrev float_first : ℕ → Bool
float_first c = is_in (codes "in") c

letter_small : (c : ℕ) → is_plain_letter c ≡ true → c < 123
letter_small c e = grind (arith, nat_tests)

-- a test that no plain letter passes
letter_fails : (q : ℕ → Bool) → T (all_upto (λ x. not (is_plain_letter x && q x)) 123) → (c : ℕ) → is_plain_letter c ≡ true → q c ≡ false
letter_fails q all c e = let t = each_upto (λ x. not (is_plain_letter x && q x)) 123 all c (letter_small c e) in grind arith

no_front : (d c : ℕ) (ds cs : List ℕ) → is_in (d ∷ []) c ≡ false → begins_with (d ∷ ds) (c ∷ cs) ≡ false
no_front d c ds cs f = grind (arith, false_from_ne_true, same, bytes_eq-Decides)

only_two : (e b s i x l r f n : Bool) → e ≡ false → b ≡ false → i ≡ false → x ≡ false → r ≡ false → f ≡ false → n ≡ false
    → (e || (b || s) || i || x || l || r || f || n) ≡ (s || l)
only_two e b s i x l r f n p q t u v w z = grind arith

plain_word : (c : ℕ) (cs : List ℕ) → is_plain_letter c ≡ true → is_float_word (c ∷ cs) ≡ false
plain_word c cs p =
    float_word (c ∷ cs)
    ∙ ap (λ b. is_among float_names (map to_ascii_lowercase (if b then cs else c ∷ cs))) (letter_fails is_sign tt c p)
    ∙ not_among (begins float_first) float_names refl (map to_ascii_lowercase (c ∷ cs))
    (letter_fails (λ x. float_first (to_ascii_lowercase x)) tt c p)

plain_text : (c : ℕ) (cs : List ℕ) → is_plain_letter c ≡ true → is_string (typing (c ∷ cs)) ≡ true
    → is_quoted (c ∷ cs) ≡ (ends_with nat_eq (c ∷ cs) (codes " ") || list_any is_unfit_for_plain (c ∷ cs))
unfolding is_quoted
plain_text c cs p e =
    only_two _ _ (ends_with nat_eq (c ∷ cs) (codes " ")) _ _ (list_any is_unfit_for_plain (c ∷ cs)) _ _ _
    refl (no_front 32 c [] cs (letter_fails (is_in (codes " ")) tt c p)) (letter_fails (is_in (codes "&*?|-<>=!%@.")) tt c p)
    (no_front 48 c (codes "x") cs (letter_fails (is_in (codes "0")) tt c p))
    (not_among (begins reserved_first) reserved_words refl (c ∷ cs) (letter_fails reserved_first tt c p)) (plain_word c cs p) (ap not e)

-- what is asked of such a text
pub plain_quoted : (bs : List ℕ) → IsUtf8 bs → begins_plainly bs ≡ true → (ends_with nat_eq (chars bs) (codes " ") || list_any is_unfit_for_plain (chars bs)) ≡ is_quoted (chars bs)
plain_quoted [] u e = cc
plain_quoted (c ∷ bs) u e =
    let small = letter_small c e in
    let cs : chars (c ∷ bs) ≡ c ∷ chars bs =
    chars_past_char (c ∷ bs) bs c u (ap (λ x. x ++ bs) (sym (encode_ascii c (omega (arith, small))))) in
    let itself : is_string (typing (c ∷ chars bs)) ≡ true = ap is_string (typing_itself c (chars bs) (letter_fails begins_value tt c e)) in
    sym (subst (λ x. is_quoted x ≡ (ends_with nat_eq x (codes " ") || list_any is_unfit_for_plain x)) (sym cs) (plain_text c (chars bs) e itself))

pub small_letter : (b : ℕ) → b < 256 → is_plain_small (bit_or b 32) ≡ is_plain_letter b
small_letter b lt = same_is _ _ (each_upto (λ x. same (is_plain_small (bit_or x 32)) (is_plain_letter x)) 256 tt b lt)
