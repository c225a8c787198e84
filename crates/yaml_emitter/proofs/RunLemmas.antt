-- Runs of bytes as texts.
use Rattle.std.proofs.lemmas.List.Concat.{flat_map-append}
use Rattle.yaml_emitter.proofs.Common.{[], and_parts, ap, append-nil, arith, chars, drop, encode_utf8, IsCharBoundary, IsRun, IsRunCut, IsUtf8, IsUtf8-take, length, List, list_all, nat_tests, ne_eqb, nil_from_length, prefix_len, refl, Result, stands, sym, take, take-append-drop, true, writes_as, WritesUnless, written_character, written_escapes, ℕ, ◌++◌, ◌∙◌, ◌∷◌, ◌≡◌, ◌≢◌}
use Rattle.yaml_emitter.proofs.ByteLemmas.{all_pass, all_tested, cut_before, run_boundary}
use Rattle.yaml_emitter.specs.Escaping.{written_code}

-- ---- one character

-- ---- a text

run_of : (cs : List ℕ) → list_all stands cs ≡ true → written_escapes cs ≡ cs
unfolding written_character
run_of [] h = refl
run_of (c ∷ cs) h = let parts = and_parts (stands c) (list_all stands cs) h in grind (arith, nat_tests, parts, run_of cs parts.1)

-- the text may be cut after its first run
pub stands_boundary : (bs : List ℕ) → IsCharBoundary bs (prefix_len stands bs)
stands_boundary bs = run_boundary stands (λ c h. grind (arith, nat_tests)) bs

front_run : (bs : List ℕ) → IsUtf8 bs → IsRun (chars (take (prefix_len stands bs) bs))
front_run bs u =
    run_of _ (all_tested stands (λ c h. grind (arith, nat_tests)) (take (prefix_len stands bs) bs) (IsUtf8-take bs _ u (stands_boundary bs))
    (all_pass stands bs))

-- where no byte is escaped, or none is left
pub only_run : (bs : List ℕ) → IsUtf8 bs → length (drop (prefix_len stands bs) bs) ≡ 0 → IsRun (chars bs)
only_run bs u n =
    let whole = rw (nil_from_length _ n, append-nil) at (take-append-drop (prefix_len stands bs) bs) in
    rw whole at (front_run bs u)

-- where a character stands after the run
pub run_cut : (bs : List ℕ) (c : ℕ) (back : List ℕ) → IsUtf8 bs → drop (prefix_len stands bs) bs ≡ encode_utf8 c ++ back
    → IsRunCut bs (take (prefix_len stands bs) bs) c back
run_cut bs c back u e =
    let cut = cut_before bs (prefix_len stands bs) c back u (stands_boundary bs) e in
    record { stands = front_run bs u; whole = cut.whole; shorter = cut.shorter; utf8 = cut.utf8 }

-- ---- how it is written

pub cut_written : {bs run back : List ℕ} {c : ℕ} → IsRunCut bs run c back
    → written_escapes (chars bs) ≡ chars run ++ (written_character c ++ written_escapes (chars back))
cut_written {run = run} {back} {c} m =
    ap written_escapes m.whole ∙ flat_map-append written_character (chars run) (c ∷ chars back)
    ∙ ap (λ x. x ++ (written_character c ++ written_escapes (chars back))) m.stands

-- ---- one character of it

pub other_character : (c : ℕ) → c ≢ 34 → c ≢ 92 → c ≢ 8 → c ≢ 9 → c ≢ 10 → c ≢ 12 → c ≢ 13 → written_code c ≡ written_character c
unfolding written_character
other_character c a b d e f g h = rw (ne_eqb c 34 a, ne_eqb c 92 b, ne_eqb c 8 d, ne_eqb c 9 e, ne_eqb c 10 f, ne_eqb c 12 g, ne_eqb c 13 h) refl

-- a character that has an escape of its own
pub writes_escape : {W E : Type 0} {gives leaves : W → List ℕ → W → Type 0} {w v : W} {r : Result (Unit {0}) E} {c d : ℕ}
    → c ≡ d → WritesUnless ⊥ gives leaves w r (written_character d) v → WritesUnless ⊥ gives leaves w r (written_character c) v
writes_escape e = writes_as (ap written_character (sym e))
