-- Tests of bytes and of characters, and sets of bytes.
use Rattle.yaml_emitter.proofs.Common.{[], All-from_get_or, and_from, and_parts, ap, append-nil, arith, Bool, cases_order, chars, chars-append, chars-IsAscii, chars_past_char, drop, each_upto, encode_ascii, encode_utf8, encode_utf8_all, encodes-chars, false, get_or, has_bit, inl, inr, inside_one, is_ascii_lowercase, is_escaped, is_low, is_unfit_for_plain, IsAscii, IsCharBoundary, IsCharBoundary-before_ascii, IsCharBoundary-end, IsUtf8, IsUtf8-drop, IsUtf8-past_char, IsUtf8-take, len_utf8_bounds, length, length-append, length-drop, length-encode, List, list_all, list_any, list_any-append, list_any_none, lt-ltb, nat_lt, nat_tests, not, or-false, prefix_len, prefix_len-le-length, prefix_len_stops, refl, same, same_is, slice_index, subst, suc, sym, take, take-append-drop, take_while-cons, true, zero, ℕ, ◌&&◌, ◌++◌, ◌<◌, ◌||◌, ◌∙◌, ◌∷◌, ◌≡◌, ◌≤◌}
use Rattle.yaml_emitter.specs.declared.runs.Bits.{Bits}

-- ---- texts of ASCII

pub low_at : (t : List ℕ) → is_low t ≡ true → (i : ℕ) → slice_index t i < 128
low_at [] h i = omega arith
low_at (c ∷ cs) h zero = let parts = and_parts (nat_lt c 128) (is_low cs) h in grind (arith, nat_tests)
low_at (c ∷ cs) h (suc i) = let parts = and_parts (nat_lt c 128) (is_low cs) h in low_at cs parts.1 i

-- bytes that are all ASCII are the characters that they spell
pub low_chars : (t : List ℕ) → is_low t ≡ true → chars t ≡ t
low_chars t h = chars-IsAscii t (low_at t h)

pub ascii_low : (t : List ℕ) → IsAscii t → is_low t ≡ true
ascii_low [] h = refl
ascii_low (c ∷ cs) h = and_from (nat_lt c 128) (is_low cs) (lt-ltb c 128 (h 0)) (ascii_low cs (λ i. h (suc i)))

-- ---- a test of each byte

-- tests that only ASCII characters pass
module _ (p : ℕ → Bool) (low : (c : ℕ) → 128 ≤ c → p c ≡ false) where
  byte_fails : (c : ℕ) → 128 ≤ c → (k : ℕ) → k < length (encode_utf8 c) → p (get_or (encode_utf8 c) k 0) ≡ false
  byte_fails c h k lt =
      let itself = inside_one c [] (encode_utf8 c) k (sym (append-nil (encode_utf8 c))) lt in
      low (get_or (encode_utf8 c) k 0) (grind (arith, itself))

  one_tested : (c : ℕ) → list_any p (encode_utf8 c) ≡ p c
  one_tested c = by (nat_lt c 128) refl
    where
      by : (x : Bool) → nat_lt c 128 ≡ x → list_any p (encode_utf8 c) ≡ p c
      by true e = ap (list_any p) (encode_ascii c (grind (arith, nat_tests))) ∙ or-false (p c)
      by false e =
          let h : 128 ≤ c = grind (arith, nat_tests) in
          list_any_none p (encode_utf8 c) (All-from_get_or (λ b. p b ≡ false) (encode_utf8 c) 0 (byte_fails c h)) ∙ sym (low c h)

  encoded_tested : (cs : List ℕ) → list_any p (encode_utf8_all cs) ≡ list_any p cs
  encoded_tested [] = refl
  encoded_tested (c ∷ cs) = list_any-append p (encode_utf8 c) (encode_utf8_all cs) ∙ (λ i. one_tested c i || encoded_tested cs i)

  pub bytes_tested : (bs : List ℕ) → IsUtf8 bs → list_any p bs ≡ list_any p (chars bs)
  bytes_tested bs u = ap (list_any p) (sym (encodes-chars bs u)) ∙ encoded_tested (chars bs)

any_is : (q : ℕ → Bool) (xs : List ℕ) → list_any (λ c. not (q c)) xs ≡ not (list_all q xs)
any_is q [] = refl
any_is q (x ∷ xs) = grind (arith, any_is q xs)

-- a test that all other characters pass
pub all_tested : (q : ℕ → Bool) → ((c : ℕ) → 128 ≤ c → q c ≡ true) → (bs : List ℕ) → IsUtf8 bs
    → list_all q bs ≡ true → list_all q (chars bs) ≡ true
all_tested q wide bs u h =
    let same = sym (any_is q (chars bs)) ∙ sym (bytes_tested (λ c. not (q c)) (λ c l. ap not (wide c l)) bs u) ∙ any_is q bs in
    grind (arith, same)

-- ---- the elements before the first that fails a test

pub all_pass : (p : ℕ → Bool) (bs : List ℕ) → list_all p (take (prefix_len p bs) bs) ≡ true
all_pass p [] = refl
all_pass p (b ∷ bs) = grind (arith, take_while-cons p b bs, all_pass p bs)

-- a text may be cut there, if only characters of ASCII fail
pub run_boundary : (p : ℕ → Bool) → ((c : ℕ) → p c ≡ false → c < 128) → (bs : List ℕ) → IsCharBoundary bs (prefix_len p bs)
run_boundary p low bs =
    elim (cases_order (prefix_len p bs) (length bs)) [
      | inl e ↦ subst (IsCharBoundary bs) (sym e) (IsCharBoundary-end bs)
      | inr (inl l) ↦ IsCharBoundary-before_ascii bs (prefix_len p bs) l (low _ (prefix_len_stops p bs 0 l))
      | inr (inr g) ↦ absurd (omega (arith, prefix_len-le-length p bs))
    ]

-- ---- a text that is cut before a character

pub record Cut (bs : List ℕ) (n c : ℕ) (back : List ℕ) : Type 0 where
  pub whole : chars bs ≡ chars (take n bs) ++ c ∷ chars back
  pub shorter : length back < length bs
  pub utf8 : IsUtf8 back

pub cut_before : (bs : List ℕ) (n c : ℕ) (back : List ℕ) → IsUtf8 bs → IsCharBoundary bs n → drop n bs ≡ encode_utf8 c ++ back
    → Cut bs n c back
cut_before bs n c back u b e =
    let rest = IsUtf8-drop bs n u b in
    let long = ap length e ∙ length-append (encode_utf8 c) back in
    record {
      whole = ap chars (sym (take-append-drop n bs)) ∙ chars-append (take n bs) (drop n bs) (IsUtf8-take bs n u b)
          ∙ ap (λ x. chars (take n bs) ++ x) (chars_past_char (drop n bs) back c rest e);
      shorter = omega (arith, long, length-drop n bs, length-encode c, len_utf8_bounds c);
      utf8 = IsUtf8-past_char (drop n bs) back c rest e;
    }

-- ---- sets that are held as bits

abbrev pub escaped_set : Bits
escaped_set = record { low = 21474836479; high = 9223372037123211264 }

pub escaped_bits : (b : ℕ) → b < 256 → (not (is_ascii_lowercase b) && has_bit escaped_set b) ≡ is_escaped b
escaped_bits b lt = same_is _ _ (each_upto (λ x. same (not (is_ascii_lowercase x) && has_bit escaped_set x) (is_escaped x)) 256 tt b lt)

abbrev pub unfit_set : Bits
unfit_set = record { low = 288248573793920639; high = 2882303766751608832 }

pub unfit_bits : (b : ℕ) → b < 256 → (not (is_ascii_lowercase b) && has_bit unfit_set b) ≡ is_unfit_for_plain b
unfolding is_unfit_for_plain
unfit_bits b lt = same_is _ _ (each_upto (λ x. same (not (is_ascii_lowercase x) && has_bit unfit_set x) (is_unfit_for_plain x)) 256 tt b lt)
