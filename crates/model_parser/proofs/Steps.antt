-- A machine's turn at one token, over any table.
use Rattle.model_parser.proofs.Common.{[], arith, before, by_leaving, by_taking, Derives, goes, leaves, List, Option, Part, parts_weight, reading, refl, refused, Row, row_of, saying, says, Some, step, suc, Table, Turned, Work, work_weight, zero, ℕ, ◌++◌, ◌+◌, ◌<◌, ◌∷◌, ◌≡◌}
use Rattle.model_parser.specs.Machine.{by_row}

-- ---- what the machine reads, the table reads

-- What goes on after a turn goes on from here.
abbrev pub Sound : {G T E H : Type 0} → Table G T E H → List (Work G E H) → T → Turned G E H → Type 0
Sound {T = T} {E = E} a w t (goes es v) = (ts : List T) (fs : List E) → Derives a v ts fs → Derives a w (t ∷ ts) (es ++ fs)
Sound a w t (refused es) = Unit {0}

sound_row : {G T E H : Type 0} (a : Table G T E H) (g : G) (h : H) (w : List (Work G E H)) (t : T) (again : List (Work G E H) → Turned G E H) (r : Option (Row G E))
    → row_of (a.cases g) t ≡ r → ((v : List (Work G E H)) → Sound a v t (again v)) → Sound a (reading g h ∷ w) t (by_row a h t w again r)
sound_row a g h w t again r p s = grind (arith, by_taking, by_leaving)

pub step_sound : {G T E H : Type 0} (a : Table G T E H) (n : ℕ) (w : List (Work G E H)) (t : T) → Sound a w t (step a n w t)
step_sound a zero w t = tt
step_sound a (suc n) [] t = tt
step_sound a (suc n) (saying e ∷ w) t = let s = step_sound a n w t in grind (arith, says)
step_sound a (suc n) (reading g h ∷ w) t = sound_row a g h w t (λ v. step a n v t) (row_of (a.cases g) t) refl (λ v. step_sound a n v t)

-- ---- weights

-- each row that leaves its token weighs less than its goal
abbrev pub Falls : {G T E H : Type 0} → Table G T E H → (G → ℕ) → Type 0
Falls {G = G} {T = T} {E = E} a m = (g : G) (t : T) (ps : List (Part G E)) → row_of (a.cases g) t ≡ Some (leaves ps) → parts_weight m ps < m g

pub parts_weigh : {G T E H : Type 0} (a : Table G T E H) (m : G → ℕ) (h : H) (t : T) (ps : List (Part G E)) (w : List (Work G E H)) → work_weight m (before a h t ps w) ≡ parts_weight m ps + work_weight m w
parts_weigh a m h t [] w = omega arith
parts_weigh a m h t (p ∷ ps) w = let i = parts_weigh a m h t ps w in grind arith
