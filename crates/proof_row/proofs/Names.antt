-- The name of an anchor or of an alias has one end.
use Rattle.proof_row.proofs.Common.{ap, is_anchor_name, NamesHaveOneEnd, sym, ◌++◌, ◌∙◌, ◌∷◌, ◌≡◌, arith, same_head, runs}

pub names : NamesHaveOneEnd
names i p q x y h k e =
    let whole : (i ∷ h.0) ++ x ≡ (i ∷ k.0) ++ y = ap (λ z. z ++ x) (sym h.1.0) ∙ (e ∙ ap (λ z. z ++ y) k.1.0) in
    let same : (h.0 ≡ k.0) × (x ≡ y) =
    runs is_anchor_name h.0 k.0 x y (grind arith) (grind arith) (grind arith) (grind arith) (same_head i i (h.0 ++ x) (k.0 ++ y) whole).1 in
    (h.1.0 ∙ (ap (λ z. i ∷ z) same.0 ∙ sym k.1.0), same.1)
