-- A separation has one end.
use Rattle.proof_row.proofs.Common.{[], Bool, ends_separation, false, is_at_line_end, is_blank, is_blank_or_end, is_break, is_separation, List, not, refl, SeparationsHaveOneEnd, true, ℕ, ◌++◌, ◌==◌, ◌||◌, ◌∷◌, ◌≡◌, arith, both, contrary, same_head, longer}

-- what ends a separation is no character of one
unfilled : (c : ℕ) (r : List ℕ) → ends_separation (c ∷ r) ≡ true → (is_blank c || is_break c || (c == 35)) ≡ false
unfolding is_blank_or_end
unfilled c r h = grind arith

-- a separation that goes on over a text at which another ends
pub over : (in_comment : Bool) (c : ℕ) (r next rest : List ℕ) → is_separation in_comment (c ∷ r) next ≡ true → (not in_comment || is_at_line_end (c ∷ rest)) ≡ true → ends_separation (c ∷ rest) ≡ true → ⊥
unfolding is_blank_or_end
over b c r next rest h k f = grind (arith, unfilled, contrary, both)

from : (in_comment : Bool) (p q x y : List ℕ) → is_separation in_comment p x ≡ true → is_separation in_comment q y ≡ true → ends_separation x ≡ true → ends_separation y ≡ true → p ++ x ≡ q ++ y → (p ≡ q) × (x ≡ y)
from b [] [] x y h k f g e = (refl, e)
from b [] (d ∷ q) x y h k f g e = grind (arith, over)
from b (c ∷ p) [] x y h k f g e = grind (arith, over)
from false (c ∷ p) (d ∷ q) x y h k f g e = grind (arith, same_head, both, longer, from (c == 35) p q x y)
from true (c ∷ p) (d ∷ q) x y h k f g e = grind (arith, same_head, longer, from (not (is_break c)) p q x y h)

pub separations : SeparationsHaveOneEnd
separations p q x y h k e = from false p q x y h.0 k.0 h.1 k.1 e
