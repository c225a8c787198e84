-- The position after characters of a line.
use Rattle.proof_lexers.proofs.Common.{[], along, arith, List, past, Position, refl, ℕ, ◌++◌, ◌∷◌, ◌≡◌, ◌≤◌}

pub along_append : (a b : List ℕ) (p : Position) → along (a ++ b) p ≡ along b (along a p)
along_append [] b p = refl
along_append (c ∷ a) b p = along_append a b (past p)

pub along_more : (a : List ℕ) (p : Position) → p.col ≤ (along a p).col
along_more [] p = omega arith
along_more (c ∷ a) p = let h = along_more a (past p) in omega (arith, h)
