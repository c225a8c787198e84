-- A text that is two texts after each other in two ways.
use Rattle.proof_row.proofs.Common.{[], List, ℕ, ◌++◌, ◌∷◌, ◌≡◌, ◌⊎◌, arith, same_head, longer}

-- a text with more after it
pub record More (p q x y : List ℕ) : Type 0 where
  pub more : List ℕ
  pub longer : q ≡ p ++ more
  pub rest : x ≡ more ++ y

pub splits : (p q x y : List ℕ) → p ++ x ≡ q ++ y → More p q x y ⊎ More q p y x
splits (c ∷ p) (d ∷ q) x y e = grind (arith, same_head, longer, splits p q x y (same_head c d (p ++ x) (q ++ y) e).1)
splits p q x y e = grind (arith, longer)
