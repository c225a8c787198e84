-- A plain scalar has one end.
use Rattle.proof_row.proofs.Common.{[], after_blank, Bool, ends_with_content, false, goes_on, inside, List, on_line, Option, past, PlainScalarsHaveOneEnd, refl, Stand, stops, true, ℕ, ◌++◌, ◌∷◌, ◌≡◌, arith, both, untrue, contrary, same_head, longer}

-- whether the last character of a text is content, or what stands before an empty one
abbrev settled : Stand → List ℕ → Bool
settled inside [] = true
settled after_blank [] = false
settled (on_line k) [] = false
settled s (c ∷ r) = ends_with_content c r

-- A scalar does not go on over a text before which it stops.
over : (fl : Bool) (coll : Option ℕ) (s : Stand) (c : ℕ) (r next : List ℕ) → stops fl coll s (c ∷ (r ++ next)) ≡ true → goes_on fl coll s (c ∷ r) next ≡ true → ends_with_content c r ≡ true → ⊥
over fl coll s c [] next h k f = grind (arith, untrue, both, contrary)
over fl coll s c (d ∷ r) next h k f = grind (arith, both, contrary, untrue, over fl coll (past s c) d r next)

from : (fl : Bool) (coll : Option ℕ) (s : Stand) (p q x y : List ℕ) → goes_on fl coll s p x ≡ true → goes_on fl coll s q y ≡ true → settled s p ≡ true → settled s q ≡ true →
    stops fl coll inside x ≡ true → stops fl coll inside y ≡ true → p ++ x ≡ q ++ y → (p ≡ q) × (x ≡ y)
from fl coll s [] [] x y h k f g i j e = (refl, e)
from fl coll s (c ∷ p) (d ∷ q) x y h k f g i j e = grind (arith, same_head, both, longer, from fl coll (past s c) p q x y)
from fl coll s p q x y h k f g i j e = grind (arith, over)

pub plains : PlainScalarsHaveOneEnd
plains fl coll a q x y h k e = grind (arith, same_head, both, from, longer)
