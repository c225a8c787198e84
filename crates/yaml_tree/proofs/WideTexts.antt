-- A text with a character that is not ASCII stands for the string of itself.
use Rattle.yaml_tree.proofs.TypingCommon.{[], and_from, and_parts, arith, Bool, chars, codes, encodes-chars, encodes-IsAscii, false, false_words, is_among, is_decimal, is_digit, IsAscii, IsUtf8, List, list_all, list_all-more, nat_lt, nat_tests, None, null_words, number, refl, signed_number, slice_index, special_words, string, subst, suc, sym, true, true_words, typing, zero, ℕ, ◌<◌, ◌∙◌, ◌∷◌, ◌≡◌, ◌≤◌}
use Rattle.std.proofs.lemmas.Bool.{false_from_ne_true}
use Rattle.defs_tree.proofs.RealTexts.{is_real_character, decimal-characters}
use Rattle.yaml_tree.proofs.TypingLemmas.{after, by_table, not_among}

-- all characters are ASCII
abbrev pub low : List ℕ → Bool
low t = list_all (λ c. nat_lt c 128) t

-- one is not
abbrev pub Wide : List ℕ → Type 0
Wide t = low t ≡ true → ⊥

wide_tail : (c : ℕ) (cs : List ℕ) → c < 128 → Wide (c ∷ cs) → Wide cs
wide_tail c cs h w = λ e. w (and_from (nat_lt c 128) (low cs) (grind (arith, nat_tests)) e)

-- ---- numbers

module _ (base : ℕ) (h : base ≤ 36) where
  no_number : (t : List ℕ) → Wide t → number base t ≡ None
  no_number [] w = refl
  no_number (c ∷ cs) w =
      rw (false_from_ne_true (list_all (is_digit base) (c ∷ cs)) (λ e. w (list_all-more (is_digit base) (λ d. nat_lt d 128) low_digit (c ∷ cs) e)))
    where
      low_digit : (d : ℕ) → is_digit base d ≡ true → nat_lt d 128 ≡ true
      low_digit d e = grind (arith, nat_tests)

  no_integer : (t : List ℕ) → Wide t → signed_number base t ≡ None
  no_integer [] w = refl
  no_integer (c ∷ cs) w = grind (arith, nat_tests, no_number (c ∷ cs) w, no_number cs, wide_tail)

  none_after : (p t : List ℕ) → low p ≡ true → Wide t → after base p t ≡ None
  none_after [] t l w = no_integer t w
  none_after (x ∷ p) [] l w = refl
  none_after (x ∷ p) (c ∷ cs) l w = grind (arith, nat_tests, none_after p cs, wide_tail)

-- ---- the table

pub typing-wide : (t : List ℕ) → Wide t → typing t ≡ string t
typing-wide t w =
    by_table t (none_after 16 (omega arith) (codes "0x") t refl w) (none_after 8 (omega arith) (codes "0o") t refl w)
    (none_after 10 (omega arith) (codes "+") t refl w)
    (no_word null_words refl) (no_word true_words refl) (no_word false_words refl) (no_integer 10 (omega arith) t w)
    (no_word special_words refl)
    (false_from_ne_true (is_decimal t) (λ e. w (list_all-more is_real_character (λ c. nat_lt c 128) low_real t (decimal-characters t e))))
  where
    no_word : (ws : List (List ℕ)) → list_all low ws ≡ true → is_among ws t ≡ false
    no_word ws h = not_among low ws h t (false_from_ne_true (low t) w)

    low_real : (c : ℕ) → is_real_character c ≡ true → nat_lt c 128 ≡ true
    low_real c h = grind (arith, nat_tests)

-- ---- the bytes of a text

pub low_at : (t : List ℕ) → low t ≡ true → (i : ℕ) → slice_index t i < 128
low_at [] h i = omega arith
low_at (c ∷ cs) h zero = let parts = and_parts (nat_lt c 128) (low cs) h in grind (arith, nat_tests)
low_at (c ∷ cs) h (suc i) = let parts = and_parts (nat_lt c 128) (low cs) h in low_at cs parts.1 i

-- characters that are all ASCII are spelt by themselves
pub low_bytes : (bs : List ℕ) → IsUtf8 bs → low (chars bs) ≡ true → IsAscii bs
low_bytes bs u h = subst IsAscii (sym (encodes-IsAscii (chars bs) (low_at (chars bs) h)) ∙ encodes-chars bs u) (low_at (chars bs) h)
