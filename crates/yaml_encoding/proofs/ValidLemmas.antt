-- Lemmas about UTF-8 that is read as it stands.
use Rattle.std.specs.Str.{chars}
use Rattle.std.specs.Str.Lossy.{utf8_valid_len}
use Rattle.std.proofs.lemmas.Bool.{cases_lt, and_parts}
use Rattle.yaml_encoding.proofs.Common.{[], add-zero, ap, append-nil, append_assoc, arith, chars-encodes, drop, drop_past_char, Encoding, front, get_or, inl, inr, is_utf8, is_utf8-from_IsUtf8, IsRead, IsUtf8, IsUtf8-from_ascii, len_utf8_bounds, length, length-append, length-drop, length-encode, List, means, nat_tests, refl, start_of, Steps, suc, sym, take, take-append-drop, true, utf_8, utf_8_sequence, valid_len_up_to, zero, ℕ, ◌*◌, ◌++◌, ◌+◌, ◌-◌, ◌/◌, ◌<◌, ◌∙◌, ◌∷◌, ◌≡◌, ◌≤◌, ◌⊎◌}
use lib.Utf8.{next, scalar, scalars, scalar_cases, encode, encodes}
use Rattle.yaml_encoding.proofs.ReadLemmas.{passes_character}

-- ---- an encoded character is read as it

encode_front : (c : ℕ) (r : List ℕ) → scalar c ≡ true → means (length (encode c)) c ≡ front utf_8_sequence (encode c ++ r)
unfolding encode start_of
encode_front c r s =
    let k = scalar_cases c s in
    let upper : c < 1114112 = elim k [ inl h ↦ omega arith | inr h ↦ h.1 ] in
    let apart : (c < 55296) ⊎ (57344 ≤ c) = elim k [ inl h ↦ inl h | inr h ↦ inr (h.0) ] in
    elim (cases_lt c 128) [
      | inl h ↦ grind (arith, nat_tests)
      | inr l ↦ elim (cases_lt c 2048) [
        | inl h ↦ let v : (192 + c / 64 - 0xC0) * 64 + (next c - 0x80) ≡ c = omega arith in grind (arith, nat_tests)
        | inr m ↦ elim (cases_lt c 65536) [
          | inl h ↦
              let v : ((224 + c / 4096 - 0xE0) * 64 + (next (c / 64) - 0x80)) * 64 + (next c - 0x80) ≡ c = omega arith in
              grind (arith, nat_tests)
          | inr n ↦
              let high = ((240 + c / 262144 - 0xF0) * 64 + (next (c / 4096) - 0x80)) * 64 in
              let v : (high + (next (c / 64) - 0x80)) * 64 + (next c - 0x80) ≡ c = omega arith in grind (arith, nat_tests)
        ]
      ]
    ]

-- ---- text with which an input begins

up_to_some : (bs : List ℕ) (n : ℕ) → is_utf8 (take 1 bs) ≡ true → 0 < valid_len_up_to bs (suc n)
up_to_some bs zero e = rw e (omega arith)
up_to_some bs (suc n) e = grind (arith, up_to_some bs n e)

-- text that begins with an ASCII byte is not empty
pub valid_some : (bs : List ℕ) → 0 < length bs → get_or bs 0 0 < 128 → 0 < utf8_valid_len bs
unfolding utf8_valid_len
valid_some [] some low = absurd (omega arith)
valid_some (b ∷ r) some low = up_to_some (b ∷ r) (length r) (is_utf8-from_IsUtf8 _ (IsUtf8-from_ascii (b ∷ []) first))
  where
    first : (i : ℕ) → get_or (b ∷ []) i 0 < 128
    first zero = low
    first (suc i) = omega arith

-- ---- an input is read over the characters that are encoded next

read_over : (step : Steps) (input cs rest : List ℕ) (at : ℕ) (so_far : List ℕ) → scalars cs ≡ true → drop at input ≡ encodes cs ++ rest
    → IsRead step utf_8 input at so_far → IsRead step utf_8 input (at + length (encodes cs)) (so_far ++ cs)
read_over step input [] rest at so_far s e r = rw (add-zero at, append-nil so_far) r
read_over step input (c ∷ cs) rest at so_far s e r =
    let parts = and_parts (scalar c) (scalars cs) s in
    let here : drop at input ≡ encode c ++ (encodes cs ++ rest) = e ∙ append_assoc (encode c) (encodes cs) rest in
    let some = len_utf8_bounds c in
    let same = length-encode c in
    let l : length input - at ≡ length (encode c) + length (encodes cs ++ rest) = sym (length-drop at input) ∙ ap (λ xs. length xs) here ∙ length-append (encode c) (encodes cs ++ rest) in
    let p = passes_character step utf_8 input at so_far (means (length (encode c)) c) (encode c ++ (encodes cs ++ rest)) (sym here) (omega arith) (encode_front c (encodes cs ++ rest) parts.0) (so_far ++ c ∷ []) c (at + length (encode c)) refl refl refl in
    let after : drop (at + length (encode c)) input ≡ encodes cs ++ rest = rw same (drop_past_char input (encodes cs ++ rest) at c here) in
    let q = read_over step input cs rest (at + length (encode c)) (so_far ++ c ∷ []) parts.1 after (p.2 r) in
    let m : (at + length (encode c)) + length (encodes cs) ≡ at + length (encode c ++ encodes cs) = omega (arith, length-append (encode c) (encodes cs)) in
    rw (← append_assoc so_far (c ∷ []) cs, ← m) q

pub passes_text : (step : Steps) (e : Encoding) (input : List ℕ) (at after : ℕ) (so_far next rest piece : List ℕ) → e ≡ utf_8 → rest ≡ drop at input → at < length input → 0 < length piece → length piece ≤ length rest
    → piece ≡ take (length piece) rest → IsUtf8 piece → next ≡ so_far ++ chars piece → after ≡ at + length piece
    → (at < after) × (after ≤ length input) × (IsRead step e input at so_far → IsRead step e input after next)
passes_text step e input at after so_far next rest piece is_utf_8 is_rest in_range some there begins (cs, (s, u)) n b =
    let l : length rest ≡ length input - at = ap (λ r. length r) is_rest ∙ length-drop at input in
    let many : length (encodes cs) ≡ length piece = ap (λ xs. length xs) u in
    let same : chars piece ≡ cs = ap (λ xs. chars xs) (sym u) ∙ chars-encodes cs s in
    let split : drop at input ≡ encodes cs ++ drop (length piece) rest =
    sym is_rest ∙ sym (take-append-drop (length piece) rest) ∙ ap (λ xs. xs ++ drop (length piece) rest) (sym begins ∙ sym u) in
    (omega arith, omega arith, λ r. rw (is_utf_8, n, b, same, ← many) (read_over step input cs (drop (length piece) rest) at so_far s split (rw is_utf_8 at r)))
