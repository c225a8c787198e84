-- What was written, and what is still to be written of it.
use Rattle.std.proofs.Common.{ℕ, zero, suc, ◌-◌, ◌≡◌, ◌<◌, refl, sym, ap, ◌∙◌, List, [], ◌∷◌, ◌++◌, Bool, true, false, ◌||◌, take, map, append_assoc, append-nil, arith, subst, encode_utf8, encode_utf8_all, codes, if◌then◌else◌}
use Rattle.defs_text.specs.Classes.{is_break, is_nul}
use Rattle.yaml_tokens.specs.Excerpt.{blank, visible, shown_line}

-- a character was written, which was the next one
one : (done : List ℕ) (c : ℕ) (r : List ℕ) {total : List ℕ} → done ++ encode_utf8_all (c ∷ r) ≡ total → (done ++ encode_utf8 c) ++ encode_utf8_all r ≡ total
one done c r h = append_assoc done (encode_utf8 c) (encode_utf8_all r) ∙ h

less : (n : ℕ) → n ≡ suc n - 1
less n = omega arith

pub blank_written :
    (done total rest after : List ℕ) (left c d : ℕ) → 0 < left → rest ≡ c ∷ after → d ≡ blank c → done ++ encode_utf8_all (map blank (take left rest)) ≡ total
    → (done ++ encode_utf8 d) ++ encode_utf8_all (map blank (take (left - 1) after)) ≡ total
blank_written done total rest after zero c d l e f h = absurd (omega (arith, l))
blank_written done total rest after (suc n) c d l e f h =
    ap (λ x. (done ++ encode_utf8 x) ++ encode_utf8_all (map blank (take (suc n - 1) after))) f
    ∙ subst (λ k. (done ++ encode_utf8 (blank c)) ++ encode_utf8_all (map blank (take k after)) ≡ total) (less n) (one done (blank c) _ (ap (λ r. done ++ encode_utf8_all (map blank (take (suc n) r))) (sym e) ∙ h))

goes_on : (n c : ℕ) (r : List ℕ) → (is_break c || is_nul c) ≡ false → shown_line (suc n) (c ∷ r) ≡ visible c ∷ shown_line n r
goes_on n c r h = ap (λ x. if x then [] else visible c ∷ shown_line n r) h

pub character_shown :
    (done total rest after : List ℕ) (left c d : ℕ) → 0 < left → rest ≡ c ∷ after → (is_break c || is_nul c) ≡ false → d ≡ visible c → done ++ encode_utf8_all (shown_line left rest) ≡ total
    → (done ++ encode_utf8 d) ++ encode_utf8_all (shown_line (left - 1) after) ≡ total
character_shown done total rest after zero c d l e b f h = absurd (omega (arith, l))
character_shown done total rest after (suc n) c d l e b f h =
    ap (λ x. (done ++ encode_utf8 x) ++ encode_utf8_all (shown_line (suc n - 1) after)) f
    ∙ subst (λ k. (done ++ encode_utf8 (visible c)) ++ encode_utf8_all (shown_line k after) ≡ total) (less n)
    (one done (visible c) _ (ap (λ x. done ++ encode_utf8_all x) (sym (ap (shown_line (suc n)) e ∙ goes_on n c after b)) ∙ h))

pub cut_shown : (done total rest after : List ℕ) (left c : ℕ) → left ≡ 0 → rest ≡ c ∷ after → (is_break c || is_nul c) ≡ false → done ++ encode_utf8_all (shown_line left rest) ≡ total → done ++ codes "..." ≡ total
unfolding lib.Utf8.encode
cut_shown done total rest after left c z e b h =
    sym (ap (λ x. done ++ encode_utf8_all x) (ap (λ n. shown_line n rest) z ∙ ap (shown_line 0) e ∙ ap (λ x. if x then [] else codes "...") b)) ∙ h
