-- The table of plain texts, read by the first byte of a text: which of its rows may fit.
use Rattle.std.specs.Option.{option_or}
use Rattle.std.specs.Int.{IsInRange}
use Rattle.std.proofs.lemmas.Int.Digits.{digits_value_more}
use Rattle.std.proofs.lemmas.Str.Parse.{IsNumeralModel, numerals_by_value, tells_all_ascii_digits, digit_at}
use Rattle.yaml_tree.proofs.TypingCommon.{[], after_all, all_ascii_digits, ap, arith, begins_in, begins_value, Bool, chars, chars-IsAscii, codes, digit_value, digits_value, false, false_words, fits_i64, get_or, if◌then◌else◌, integer, is_among, is_ascii_digit, is_decimal, is_decimal-read, is_digit, is_empty, is_sign, IsUtf8, length, List, list_all, nat_lt, nat_tests, None, not, null, null_words, Option, option_and_then, option_map, pos, reads_on, refl, signed_number, Some, special_words, string, subst, sym, take, true, true_words, typing, unwrap_or, where_true, ℕ, ℤ, ◌*◌, ◌+◌, ◌-◌, ◌<◌, ◌==◌, ◌^◌, ◌||◌, ◌∙◌, ◌∷◌, ◌≡◌, ◌⊎◌}
use Rattle.yaml_tree.specs.Meanings.{meant, string_or, integer_or}
use Rattle.yaml_tree.specs.declared.plain.Meaning.{Meaning}
use Rattle.yaml_tree.specs.declared.plain.Meaning.TheVariants as meaning
use Rattle.yaml_tree.proofs.FirstByte.{lettered, typing_itself, unsigned}
use Rattle.yaml_tree.proofs.TypingLemmas.{after, by_table, not_after, not_among, table}
use Rattle.yaml_tree.proofs.WideTexts.{low, Wide, low_at, low_bytes, typing-wide}

-- ---- what a test or a number decides

word_or_string : (m : Meaning) (b : Bool) (t : List ℕ) → meant (string_or m b) t ≡ unwrap_or (where_true b (meant m t)) (string t)
word_or_string m a t = grind arith

integer_or_string : (o : Option ℤ) (t : List ℕ) → meant (integer_or meaning.String o) t ≡ unwrap_or (option_map integer o) (string t)
integer_or_string a t = grind arith

-- an integer, after a plus or alone, or else a real
integer_or_real : (p s : Option ℤ) (w d : Bool) (t : List ℕ)
    → meant (integer_or (string_or meaning.Real (w || d)) (option_or p s)) t ≡ table t None None p false false false s w d
integer_or_real a b w d t = grind arith

-- ---- a text that begins with a digit, by what follows its digits

all_digits : (t : List ℕ) → (all_ascii_digits t ≡ is_empty (after_all is_ascii_digit t)) × (list_all (is_digit 10) t ≡ is_empty (after_all is_ascii_digit t))
all_digits [] = (refl, refl)
all_digits (c ∷ cs) = let rest = all_digits cs in (grind arith, grind (arith, nat_tests))

-- no number after `0` and a letter, where another byte follows the digits
no_after : (base x c : ℕ) (cs : List ℕ) → is_ascii_digit x ≡ false → begins_in (λ d. x == d) (after_all is_ascii_digit cs) ≡ false
    → after base (48 ∷ x ∷ []) (c ∷ cs) ≡ None
no_after base x c [] n h = grind arith
no_after base x c (d ∷ ds) n h = grind (arith, nat_tests)

module _ (c : ℕ) (cs r : List ℕ) (digit : is_ascii_digit c ≡ true) (stays : r ≡ after_all is_ascii_digit (c ∷ cs)) where
  rest : after_all is_ascii_digit cs ≡ r
  rest = sym (stays ∙ ap (λ b. if b then after_all is_ascii_digit cs else c ∷ cs) digit)

  no_sign : is_sign c ≡ false
  no_sign = grind (arith, nat_tests)

  no_word : (ws : List (List ℕ)) → list_all (λ w. not (begins_in is_ascii_digit w)) ws ≡ true → is_among ws (c ∷ cs) ≡ false
  no_word ws h = not_among (λ w. not (begins_in is_ascii_digit w)) ws h (c ∷ cs) (ap not digit)

  no_letter : (base x : ℕ) → is_ascii_digit x ≡ false → begins_in (λ d. x == d) r ≡ false → after base (48 ∷ x ∷ []) (c ∷ cs) ≡ None
  no_letter base x n h = no_after base x c cs n (ap (begins_in (λ d. x == d)) rest ∙ h)

  -- digits alone write an integer, where 64 bits hold it
  integer_alone : signed_number 10 (c ∷ cs)
      ≡ option_and_then (λ z. if fits_i64 z then Some z else None) (option_map pos (if is_empty r then Some (digits_value 10 (c ∷ cs)) else None))
  integer_alone = unsigned c cs no_sign ∙ rw ((all_digits (c ∷ cs)).1, ← stays)

  by_digit : {x o s : Option ℤ} → after 16 (codes "0x") (c ∷ cs) ≡ x → after 8 (codes "0o") (c ∷ cs) ≡ o → signed_number 10 (c ∷ cs) ≡ s
      → typing (c ∷ cs) ≡ table (c ∷ cs) x o None false false false s false (reads_on true r)
  by_digit x o s =
      by_table (c ∷ cs) x o (not_after 10 43 [] c cs (grind (arith, nat_tests))) (no_word null_words refl) (no_word true_words refl)
      (no_word false_words refl)
      s (no_word special_words refl) (rw (is_decimal-read (c ∷ cs), no_sign, digit, rest))

abbrev pub begins_digit : List ℕ → Type 0
begins_digit t = begins_in is_ascii_digit t ≡ true

pub digits_alone : (t r : List ℕ) → begins_digit t → r ≡ after_all is_ascii_digit t → length r < 1 → meant (integer_or meaning.Real (signed_number 10 t)) t ≡ typing t
digits_alone (c ∷ cs) [] h e n =
    integer_or_real None (signed_number 10 (c ∷ cs)) false true (c ∷ cs)
    ∙ sym (by_digit c cs [] h e (no_letter c cs [] h e 16 120 refl refl) (no_letter c cs [] h e 8 111 refl refl) refl)
digits_alone t r h e n = absurd (grind arith)

pub digits_x : (t r : List ℕ) → begins_digit t → r ≡ after_all is_ascii_digit t → 0 < length r → get_or r 0 0 ≡ 120
    → meant (integer_or meaning.String (after 16 (codes "0x") t)) t ≡ typing t
digits_x (c ∷ cs) (d ∷ r) h e n x =
    let stays = sym (ap (λ u. u ∷ r) x) ∙ e in
    integer_or_string (after 16 (codes "0x") (c ∷ cs)) (c ∷ cs)
    ∙ sym (by_digit c cs (120 ∷ r) h stays refl (no_letter c cs (120 ∷ r) h stays 8 111 refl refl) (integer_alone c cs (120 ∷ r) h stays))
digits_x t r h e n x = absurd (grind arith)

pub digits_o : (t r : List ℕ) → begins_digit t → r ≡ after_all is_ascii_digit t → 0 < length r → get_or r 0 0 ≡ 111
    → meant (integer_or meaning.String (after 8 (codes "0o") t)) t ≡ typing t
digits_o (c ∷ cs) (d ∷ r) h e n x =
    let stays = sym (ap (λ u. u ∷ r) x) ∙ e in
    integer_or_string (after 8 (codes "0o") (c ∷ cs)) (c ∷ cs)
    ∙ sym (by_digit c cs (111 ∷ r) h stays (no_letter c cs (111 ∷ r) h stays 16 120 refl refl) refl (integer_alone c cs (111 ∷ r) h stays))
digits_o t r h e n x = absurd (grind arith)

pub digits_other : (t r : List ℕ) → begins_digit t → r ≡ after_all is_ascii_digit t → 0 < length r → (120 == get_or r 0 0) ≡ false → (111 == get_or r 0 0) ≡ false
    → meant (string_or meaning.Real (reads_on true r)) t ≡ typing t
digits_other (c ∷ cs) (d ∷ r) h e n x o =
    integer_or_real None None false (reads_on true (d ∷ r)) (c ∷ cs)
    ∙ sym (by_digit c cs (d ∷ r) h e (no_letter c cs (d ∷ r) h e 16 120 refl x) (no_letter c cs (d ∷ r) h e 8 111 refl o)
    (integer_alone c cs (d ∷ r) h e))
digits_other t r h e n x o = absurd (grind arith)

-- nothing stands after the digits of a text of digits
pub only_digits : (t r : List ℕ) → r ≡ after_all is_ascii_digit t → length r < 1 → all_ascii_digits t ≡ true
only_digits t [] e n = (all_digits t).0 ∙ ap is_empty (sym e)
only_digits t (d ∷ r) e n = absurd (omega arith)

pub number_of_digits : (t : List ℕ) → begins_digit t → all_ascii_digits t ≡ true → digits_value 10 t < 10 ^ 18 → Some (pos (digits_value 10 t)) ≡ signed_number 10 t
number_of_digits [] h e n = absurd (grind arith)
number_of_digits (c ∷ cs) h e n =
    let small : nat_lt (digits_value 10 (c ∷ cs)) (2 ^ 63) ≡ true = grind (arith, nat_tests) in
    sym (integer_alone c cs (after_all is_ascii_digit (c ∷ cs)) h refl ∙ rw (← (all_digits (c ∷ cs)).0, e, small))

-- texts of digits, as std reads them
pub own : IsNumeralModel (λ ds. all_ascii_digits ds ≡ true) (digits_value 10)
own = numerals_by_value (λ ds. all_ascii_digits ds ≡ true) tells_all_ascii_digits

-- one more digit: it is one, and the number so far is no more than the whole
pub one_digit : (t : List ℕ) (i : ℕ) → all_ascii_digits t ≡ true → i < length t → IsInRange 48 57 (get_or t i 0)
one_digit t i e n = digit_at t i (own.to t e) n

pub one_more : (t : List ℕ) (i : ℕ) → all_ascii_digits t ≡ true → i < length t → digits_value 10 (take (i + 1) t) ≡ digits_value 10 (take i t) * 10 + (get_or t i 0 - 48)
one_more t i e n = digits_value_more 10 t i n ∙ ap (λ d. digits_value 10 (take i t) * 10 + d) (value (get_or t i 0) (one_digit t i e n))
  where
    value : (c : ℕ) → IsInRange 48 57 c → digit_value c ≡ c - 48
    value c h = grind (arith, nat_tests)

-- ---- signs

abbrev pub begins_sign : List ℕ → Type 0
begins_sign t = begins_in is_sign t ≡ true

-- an integer after a sign, or after `+` and another sign
abbrev after_sign : List ℕ → Option ℤ
after_sign t = option_or (after 10 (codes "+") t) (signed_number 10 t)

pub signed : (t : List ℕ) → begins_sign t
    → meant (integer_or (string_or meaning.Real (is_among special_words t || is_decimal t)) (after_sign t)) t ≡ typing t
signed [] h = absurd (grind arith)
signed (c ∷ cs) h =
    let other : (48 == c) ≡ false = grind (arith, nat_tests) in
    integer_or_real (after 10 (codes "+") (c ∷ cs)) (signed_number 10 (c ∷ cs)) (is_among special_words (c ∷ cs)) (is_decimal (c ∷ cs))
    (c ∷ cs)
    ∙ sym (by_table (c ∷ cs) (not_after 16 48 (codes "x") c cs other) (not_after 8 48 (codes "o") c cs other) refl
    (no_word null_words refl) (no_word true_words refl) (no_word false_words refl) refl refl refl)
  where
    no_word : (ws : List (List ℕ)) → list_all (λ w. not (begins_in is_sign w)) ws ≡ true → is_among ws (c ∷ cs) ≡ false
    no_word ws w = not_among (λ w. not (begins_in is_sign w)) ws w (c ∷ cs) (ap not h)

-- ---- a point

pub by_point : (t : List ℕ) → 0 < length t → get_or t 0 0 ≡ 46 → meant (string_or meaning.Real (is_among special_words t || is_decimal t)) t ≡ typing t
by_point [] n e = absurd (omega arith)
by_point (c ∷ cs) n e =
    subst (λ d. meant (string_or meaning.Real (is_among special_words (d ∷ cs) || is_decimal (d ∷ cs))) (d ∷ cs) ≡ typing (d ∷ cs)) (sym e)
    (integer_or_real None None (is_among special_words (46 ∷ cs)) (is_decimal (46 ∷ cs)) (46 ∷ cs)
    ∙ sym (by_table (46 ∷ cs) refl refl refl refl refl refl refl refl refl))

-- ---- words

-- one of two first bytes
abbrev pub BeginsEither : ℕ → ℕ → List ℕ → Type 0
BeginsEither a b t = (get_or t 0 0 ≡ a) ⊎ (get_or t 0 0 ≡ b)

pub by_null : (t : List ℕ) → 0 < length t → BeginsEither 110 126 t → meant (string_or meaning.Null (is_among null_words t)) t ≡ typing t
by_null [] n e = absurd (omega arith)
by_null (c ∷ cs) n e =
    word_or_string meaning.Null (is_among null_words (c ∷ cs)) (c ∷ cs)
    ∙ sym (lettered c cs {y = false} {f = false} (grind (arith, nat_tests)) refl (grind (arith, nat_tests)) (grind (arith, nat_tests)))

pub by_true : (t : List ℕ) → 0 < length t → BeginsEither 84 116 t
    → meant (string_or (meaning.Boolean true) (is_among true_words t)) t ≡ typing t
by_true [] n e = absurd (omega arith)
by_true (c ∷ cs) n e =
    word_or_string (meaning.Boolean true) (is_among true_words (c ∷ cs)) (c ∷ cs)
    ∙ sym (lettered c cs {n = false} {f = false} (grind (arith, nat_tests)) (grind (arith, nat_tests)) refl (grind (arith, nat_tests)))

pub by_false : (t : List ℕ) → 0 < length t → BeginsEither 70 102 t
    → meant (string_or (meaning.Boolean false) (is_among false_words t)) t ≡ typing t
by_false [] n e = absurd (omega arith)
by_false (c ∷ cs) n e =
    word_or_string (meaning.Boolean false) (is_among false_words (c ∷ cs)) (c ∷ cs)
    ∙ sym (lettered c cs {n = false} {y = false} (grind (arith, nat_tests)) (grind (arith, nat_tests)) (grind (arith, nat_tests)) refl)

-- ---- no text, and any other first byte

pub by_none : (t : List ℕ) → length t < 1 → null ≡ typing t
unfolding typing
by_none [] n = refl
by_none (c ∷ cs) n = absurd (omega arith)

pub by_other : (t : List ℕ) → 0 < length t → begins_value (get_or t 0 0) ≡ false → string t ≡ typing t
by_other [] n e = absurd (omega arith)
by_other (c ∷ cs) n e = sym (typing_itself c cs e)

-- ---- from the bytes of a text to its characters

strings : (m : Meaning) (t u : List ℕ) → meant m t ≡ string t → meant m u ≡ string u
strings a t u e = grind arith

pub by_bytes : (m : Meaning) (bs : List ℕ) → IsUtf8 bs → meant m bs ≡ typing bs → meant m (chars bs) ≡ typing (chars bs)
by_bytes m bs u e = by (low (chars bs)) refl
  where
    by : (b : Bool) → low (chars bs) ≡ b → meant m (chars bs) ≡ typing (chars bs)
    by true h = subst (λ t. meant m t ≡ typing t) (sym (chars-IsAscii bs (low_bytes bs u h))) e
    by false h =
        let wide : Wide bs = λ l. let i = ap low (chars-IsAscii bs (low_at bs l)) ∙ l in cc in
        strings m bs (chars bs) (e ∙ typing-wide bs wide) ∙ sym (typing-wide (chars bs) (λ l. cc))
