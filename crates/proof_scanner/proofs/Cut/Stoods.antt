-- Where a colon may stand next to what was read before it, over the separation between; and columns that are deep enough.
use Rattle.proof_scanner.proofs.Common.{[], and_parts, ap, append_assoc, arith, Before, before_past, begins_separation, Bool, eqb-true, false, Held, is_adjacent, is_blanks, is_separation, IsAdjacent, length, length-append, List, nat_le, nat_tests, other, Position, position_after, refl, suc, sym, true, ℕ, ◌&&◌, ◌++◌, ◌+◌, ◌<◌, ◌==◌, ◌||◌, ◌∙◌, ◌∷◌, ◌≡◌, ◌≤◌}
use Rattle.defs_token.specs.Account.{quoted}
use Rattle.proof_scanner.proofs.Cut.Positions.{index_after}
use Rattle.proof_scanner.proofs.Cut.Pieces.Separations.{separation_append}

blanks_both : (f g : List ℕ) → is_blanks (f ++ g) ≡ (is_blanks f && is_blanks g)
blanks_both [] g = refl
blanks_both (c ∷ f) g = grind (arith, nat_tests, eqb-true, blanks_both f g)

pub before_both : (b : Before) (f g : List ℕ) → before_past (before_past b f) g ≡ before_past b (f ++ g)
before_both a f g = grind (arith, nat_tests, eqb-true, blanks_both)

-- ---- columns that are deep enough, and colons that stand next to nothing

-- whether a token may begin here: not left of the innermost level
abbrev pub IsDeep : Held → Type 0
IsDeep s = s.indent ≤ s.position.col + 1

pub adjacent_other : (p : Position) (adj : ℕ) (rest : List ℕ) → adj < p.index → IsAdjacent other p adj rest
adjacent_other p adj rest h = λ separation r e k t. sym (grind (arith, nat_tests))

-- a column that is deep enough, or no matter
pub less_or : (b : Bool) (x y : ℕ) → x ≤ suc y → (b || nat_le x (suc y)) ≡ true
less_or a x y h = grind arith

-- ---- a colon right after a quoted scalar

pub same_number : (n : ℕ) → (n + 0 == n) ≡ true
same_number n = grind (arith, nat_tests)

-- right after a quoted scalar, at a token
pub adjacent_quoted : (p : Position) (rest separation2 : List ℕ) → begins_separation rest ≡ false → IsAdjacent (before_past quoted separation2) p p.index rest
adjacent_quoted p rest separation2 solid = λ separation r e k t. by separation r e k
  where
    by : (separation r : List ℕ) → rest ≡ separation ++ r → is_separation false separation r ≡ true → is_adjacent (before_past (before_past quoted separation2) separation) ≡ ((p.index + length separation) == p.index)
    by [] r e k = sym (same_number p.index)
    by (c ∷ f) r e k = grind (arith, nat_tests, eqb-true, and_parts)

-- ---- a colon next to what stands before it, over a separation

pub adjacent_filled : (before : Before) (p : Position) (adj : ℕ) (rest g rest2 : List ℕ) → rest ≡ g ++ rest2 → is_separation false g rest2 ≡ true → IsAdjacent before p adj rest → IsAdjacent (before_past before g) (position_after p g rest2) adj rest2
adjacent_filled before p adj rest g rest2 cut f a = λ separation r e k t.
    let fills : is_separation false g (separation ++ r) ≡ true = rw e at f in
    let known : is_adjacent (before_past before (g ++ separation)) ≡ ((p.index + length (g ++ separation)) == adj) = a (g ++ separation) r (cut ∙ ap (λ x. g ++ x) e ∙ sym (append_assoc g separation r)) (separation_append false g separation r fills k) t in
    let many : p.index + length (g ++ separation) ≡ (position_after p g rest2).index + length separation = rw (length-append g separation, index_after p g rest2) (omega arith) in
    ap is_adjacent (before_both before g separation) ∙ known ∙ ap (λ x. x == adj) many
