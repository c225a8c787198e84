-- What the first byte of a text tells of what it stands for.
use Rattle.yaml_tree.proofs.TypingCommon.{[], arith, begins_in, begins_value, begins_word, Bool, codes, false, false_words, fits_i64, if◌then◌else◌, is_among, is_ascii_digit, is_decimal, is_decimal-read, is_digit, is_empty, is_point, is_sign, List, list_all, nat_tests, None, null_words, number, option_and_then, option_map, pos, refl, signed_number, Some, special_words, string, true, true_words, typing, ℕ, ◌||◌, ◌∙◌, ◌∷◌, ◌≡◌}
use Rattle.yaml_tree.proofs.TypingLemmas.{by_table, not_after, not_among, table}

pub unsigned : (c : ℕ) (cs : List ℕ) → is_sign c ≡ false
    → signed_number 10 (c ∷ cs) ≡ option_and_then (λ z. if fits_i64 z then Some z else None) (option_map pos (number 10 (c ∷ cs)))
unsigned c cs e = grind (arith, nat_tests)

-- where no digit, sign or point stands first, only words are left
pub lettered : (c : ℕ) (cs : List ℕ) {n y f : Bool} → (is_ascii_digit c || (is_sign c || is_point c)) ≡ false
    → is_among null_words (c ∷ cs) ≡ n → is_among true_words (c ∷ cs) ≡ y → is_among false_words (c ∷ cs) ≡ f
    → typing (c ∷ cs) ≡ table (c ∷ cs) None None None n y f None false false
lettered c cs other n y f =
    let digit : is_ascii_digit c ≡ false = grind arith in
    let sign : is_sign c ≡ false = grind arith in
    let point : is_point c ≡ false = grind arith in
    let low : is_digit 10 c ≡ false = grind (arith, nat_tests) in
    let number : signed_number 10 (c ∷ cs) ≡ None = unsigned c cs sign ∙ rw low in
    let decimal : is_decimal (c ∷ cs) ≡ false = rw (is_decimal-read (c ∷ cs), sign, digit, point) in
    by_table (c ∷ cs) (not_after 16 48 (codes "x") c cs (grind (arith, nat_tests))) (not_after 8 48 (codes "o") c cs (grind (arith, nat_tests)))
    (not_after 10 43 [] c cs (grind (arith, nat_tests))) n y f number
    (not_among (begins_in (λ d. is_sign d || is_point d)) special_words refl (c ∷ cs) (grind arith)) decimal

pub typing_itself : (c : ℕ) (cs : List ℕ) → begins_value c ≡ false → typing (c ∷ cs) ≡ string (c ∷ cs)
typing_itself c cs plain = lettered c cs (grind arith) (no_word null_words refl) (no_word true_words refl) (no_word false_words refl)
  where
    no_word : (ws : List (List ℕ)) → list_all (λ w. is_empty w || begins_in begins_word w) ws ≡ true → is_among ws (c ∷ cs) ≡ false
    no_word ws h = not_among (λ w. is_empty w || begins_in begins_word w) ws h (c ∷ cs) (grind arith)
