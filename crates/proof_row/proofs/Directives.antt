-- A directive has one end: its line's.
use Rattle.proof_row.proofs.Common.{[], all_of, Bool, DirectivesHaveOneEnd, has_no_break, has_no_nul, is_at_line_end, is_break, List, not, refl, true, ℕ, ◌∷◌, ◌≡◌, arith, ends_run, runs, no_nul_after}

abbrev is_in_line : ℕ → Bool
is_in_line c = not (is_break c)

in_line : (p : List ℕ) → has_no_break p ≡ true → all_of is_in_line p ≡ true
in_line [] h = refl
in_line (c ∷ p) h = grind (arith, in_line p)

ended : (x : List ℕ) → is_at_line_end x ≡ true → has_no_nul x ≡ true → ends_run is_in_line x ≡ true
ended a h k = grind arith

pub directives : DirectivesHaveOneEnd
directives p q x y h k e =
    runs is_in_line p q x y (in_line p h.2) (in_line q k.2) (ended x h.3 (no_nul_after p x h.4)) (ended y k.3 (no_nul_after q y k.4)) e
