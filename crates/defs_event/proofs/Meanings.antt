-- A statement about each row of a table, and the tokens that it is for.
use Rattle.defs_event.proofs.Common.{[], Bool, Case, false, List, on, otherwise, Row, row_of, Some, true, ◌||◌, ◌∷◌, ◌≡◌, arith}

-- The statement holds of each row and the tokens that it is for: those that its test holds of, or that no test before holds of.
abbrev pub EachRow : {G T E : Type 0} → (T → Row G E → Type 0) → (tested : T → Bool) → List (Case G T E) → Type 0
EachRow P tested [] = Unit {0}
EachRow {T = T} P tested (on test r ∷ cs) = ((t : T) → test t ≡ true → P t r) × EachRow P (λ t. test t || tested t) cs
EachRow {T = T} P tested (otherwise r ∷ cs) = (t : T) → tested t ≡ false → P t r

pub row_holds : {G T E : Type 0} (P : T → Row G E → Type 0) (tested : T → Bool) (cs : List (Case G T E)) → EachRow P tested cs
    → (t : T) → tested t ≡ false → (r : Row G E) → row_of cs t ≡ Some r → P t r
row_holds P tested [] x t n r h = cc
row_holds P tested (on test q ∷ cs) x t n r h = grind (arith, x.0 t, row_holds P (λ u. test u || tested u) cs x.1 t)
row_holds P tested (otherwise q ∷ cs) x t n r h = let s : q ≡ r = cc in rw (← s) (x t n)
