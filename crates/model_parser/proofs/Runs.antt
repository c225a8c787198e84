-- What a machine tells of tokens is right, over any table: it is a parser that stays on track.
use Rattle.model_parser.proofs.Common.{[], after_events, and_before, ap, append-nil, append_assoc, arith, before, Begins, Bool, Derives, false, finish, go_on, goes, inl, inr, IsOnTrack, IsRight, leaves, List, NeverGoesOn, None, nothing_left, Option, Outcome, Part, part_work, reading, refl, refused, Row, row_of, run, saying, says, Some, step, subst, suc, sym, Table, takes, true, Turned, Work, work_weight, zero, ℕ, ◌++◌, ◌<◌, ◌∷◌, ◌≡◌, ◌⊎◌}
use Rattle.model_parser.specs.Machine.{by_row}
use Rattle.model_parser.proofs.Steps.{Falls, parts_weigh}
use Rattle.model_parser.proofs.Completions.{said_by, Completes, all_complete}
use Rattle.model_parser.proofs.Track.{LeavingRow, EndsGoal, starts, look, give, take, leave, refuse}

-- ---- work that is not at its end, and work that is

-- The last of it is a goal of the bottom.
abbrev pub is_open : {G E H : Type 0} → (bottom : G → Bool) → List (Work G E H) → Bool
is_open bottom [] = false
is_open bottom (saying e ∷ w) = is_open bottom w
is_open bottom (reading g h ∷ []) = bottom g
is_open bottom (reading g h ∷ (x ∷ w)) = is_open bottom (x ∷ w)

-- There are events alone.
abbrev pub is_shut : {G E H : Type 0} → List (Work G E H) → Bool
is_shut [] = true
is_shut (saying e ∷ w) = is_shut w
is_shut (reading g h ∷ w) = false

abbrev pub IsInStep : {G E H : Type 0} → (bottom : G → Bool) → List (Work G E H) → Type 0
IsInStep bottom w = (is_open bottom w ≡ true) ⊎ (is_shut w ≡ true)

-- The rows of a bottom goal leave a bottom goal last, or take the last token.
abbrev pub BottomRow : {G T E H : Type 0} → Table G T E H → (bottom : G → Bool) → T → Row G E → Type 0
BottomRow {H = H} a bottom t (takes ps) = (h : H) → IsInStep bottom (before a h t ps [])
BottomRow {H = H} a bottom t (leaves ps) = (h : H) → is_open bottom (before a h t ps []) ≡ true

-- what is asked of a table
pub record IsMended {G T E H : Type 0} (a : Table G T E H) (m : G → ℕ) (bottom : G → Bool) (ends : T → Bool) : Type 0 where
  pub falls : Falls a m
  pub completes : Completes a
  pub bottoms : (g : G) (t : T) (r : Row G E) → bottom g ≡ true → row_of (a.cases g) t ≡ Some r → BottomRow a bottom t r
  pub leaving : (g : G) (t : T) (r : Row G E) → row_of (a.cases g) t ≡ Some r → LeavingRow a m ends g t r
  pub ended : (g : G) (h : H) (t : T) → row_of (a.cases g) t ≡ None → EndsGoal completes ends g h

open_after : {G E H : Type 0} (bottom : G → Bool) (x : Work G E H) (w : List (Work G E H)) → is_open bottom w ≡ true → is_open bottom (x ∷ w) ≡ true
open_after bottom a w o = grind arith

open_before : {G T E H : Type 0} (a : Table G T E H) (bottom : G → Bool) (h : H) (t : T) (ps : List (Part G E)) (w : List (Work G E H))
    → is_open bottom w ≡ true → is_open bottom (before a h t ps w) ≡ true
open_before a bottom h t [] w o = o
open_before a bottom h t (p ∷ ps) w o = open_after bottom (part_work a h t p) (before a h t ps w) (open_before a bottom h t ps w o)

-- ---- a turn at the end

-- What is left is said, and the token is refused.
shut_turn : {G T E H : Type 0} (a : Table G T E H) (m : G → ℕ) (n : ℕ) (w : List (Work G E H)) (t : T) → work_weight m w < n → is_shut w ≡ true
    → (es : List E) × (step a n w t ≡ refused es) × Derives a w [] es × ((us : List T) (fs : List E) → Derives a w (t ∷ us) fs → ⊥)
shut_turn a m zero w t k s = absurd (omega (arith, k))
shut_turn a m (suc n) [] t k s = ([], refl, nothing_left, λ us fs d. elim d [ ])
shut_turn a m (suc n) (saying e ∷ w) t k s =
    let x = shut_turn a m n w t (omega (arith, k)) s in
    (e ∷ x.0, ap (λ o. and_before e o) x.1, says x.2, λ us fs d. let y = said_by d in x.3 us y.0 y.2)
shut_turn a m (suc n) (reading g h ∷ w) t k s = cc

-- ---- turns of open work, and all tokens

-- It goes on, on track and in step; or the token is refused by right.
abbrev TurnsRight : {G T E H : Type 0} → Table G T E H → (bottom : G → Bool) → (ends : T → Bool) → (start : List (Work G E H)) → (taken : List T) → T
    → (given : List E) → Turned G E H → Type 0
TurnsRight a bottom ends start taken t given (goes es v) = IsOnTrack a ends start v (taken ++ t ∷ []) None (given ++ es) × IsInStep bottom v
TurnsRight a bottom ends start taken t given (refused es) = Begins a start taken (given ++ es) × NeverGoesOn a start taken t

-- the events that were given before those of the outcome
events_along : {T E : Type 0} (given es : List E) (o : Outcome T E) → after_events (given ++ es) o ≡ after_events given (after_events es o)
events_along given es o = grind (arith, append_assoc)

-- what the machine tells from here is right of all tokens
abbrev RightFrom : {G T E H : Type 0} → Table G T E H → (start : List (Work G E H)) → (taken : List T) → (given : List E) → (ts : List T) → Outcome T E → Type 0
RightFrom a start taken given ts o = IsRight a start (taken ++ ts) (after_events given o)

module _ {G T E H : Type 0} {a : Table G T E H} {m : G → ℕ} {bottom : G → Bool} {ends : T → Bool} (c : IsMended a m bottom ends) {start : List (Work G E H)} where
  turn_row : {g : G} {h : H} {w : List (Work G E H)} {taken : List T} {t : T} {given : List E} → IsOnTrack a ends start (reading g h ∷ w) taken (Some t) given
      → (n : ℕ) (r : Option (Row G E)) → row_of (a.cases g) t ≡ r → work_weight m (reading g h ∷ w) < suc n → is_open bottom (reading g h ∷ w) ≡ true
      → ((v : List (Work G E H)) → IsOnTrack a ends start v taken (Some t) given → work_weight m v < n → is_open bottom v ≡ true → TurnsRight a bottom ends start taken t given (step a n v t))
      → TurnsRight a bottom ends start taken t given (by_row a h t w (λ v. step a n v t) r)
  turn_row {g} {h} {w} {taken} {t} x n (Some (takes ps)) p k o i = let y = take x ps p in let b = c.bottoms g t (takes ps) in grind (arith, append-nil, open_before)
  turn_row {g} {h} {w} {taken} {t} x n (Some (leaves ps)) p k o i =
      let l = c.falls g t ps p in
      let j = parts_weigh a m h t ps w in
      i (before a h t ps w) (leave x m c.completes ps p (c.leaving g t (leaves ps) p)) (omega (arith, k, l, j)) (let b = c.bottoms g t (leaves ps) in grind (arith, open_before))
  turn_row {g} {h} {w} {taken} {t} x n None p k o i = let y = refuse x c.completes (c.ended g h t p) p in grind (arith, append-nil)

  open_turn : {taken : List T} {given : List E} (n : ℕ) (w : List (Work G E H)) (t : T) → IsOnTrack a ends start w taken (Some t) given
      → work_weight m w < n → is_open bottom w ≡ true → TurnsRight a bottom ends start taken t given (step a n w t)
  open_turn zero w t x k o = absurd (omega (arith, k))
  open_turn (suc n) [] t x k o = cc
  open_turn {taken} {given} (suc n) (saying e ∷ w) t x k o = let y = open_turn {given = given ++ e ∷ []} n w t (give x) (omega (arith, k)) o in grind (arith, append_assoc)
  open_turn (suc n) (reading g h ∷ w) t x k o = turn_row x n (row_of (a.cases g) t) refl k o (λ v y l q. open_turn n v t y l q)

  turns : {taken : List T} {given : List E} (n : ℕ) (w : List (Work G E H)) (t : T) → IsOnTrack a ends start w taken None given
      → work_weight m w < n → IsInStep bottom w → TurnsRight a bottom ends start taken t given (step a n w t)
  turns n w t x k (inl o) = open_turn n w t (look x t) k o
  turns {taken} {given} n w t x k (inr s) =
      let y = shut_turn a m n w t k s in
      let b : Derives a start (taken ++ []) ((given ++ y.0) ++ []) = rw (append-nil (given ++ y.0)) (x.sound [] y.0 tt y.2) in
      subst (λ o. TurnsRight a bottom ends start taken t given o) (sym y.1) (([], [], b), λ us fs d. let z = x.exact (t ∷ us) fs tt d in y.3 us z.0 z.2)

  right_end : {taken : List T} {given : List E} (w : List (Work G E H)) → IsOnTrack a ends start w taken None given → RightFrom a start taken given [] (finish w)
  right_end [] x = x.sound [] [] tt nothing_left
  right_end {taken} {given} (saying e ∷ w) x = grind (arith, events_along, finish, right_end {given = given ++ e ∷ []} w (give x))
  right_end {taken} {given} (reading g h ∷ w) x =
      let k = all_complete a c.completes (reading g h ∷ w) in
      let b : Derives a start ((taken ++ []) ++ k.0) ((given ++ []) ++ k.1) = rw (append-nil taken, append-nil given) (x.sound k.0 k.1 tt k.2) in
      ((k.0, k.1, b), λ fs d. let y = x.exact [] fs tt d in elim y.2 [ ])

  right_on : (taken : List T) (given : List E) (t : T) (ts : List T) (again : List (Work G E H) → Outcome T E) (o : Turned G E H) → TurnsRight a bottom ends start taken t given o
      → ((v : List (Work G E H)) (given : List E) → IsInStep bottom v → IsOnTrack a ends start v (taken ++ t ∷ []) None given → RightFrom a start (taken ++ t ∷ []) given ts (again v))
      → RightFrom a start taken given (t ∷ ts) (go_on t ts again o)
  right_on taken given t ts again (goes es v) x i =
      subst (λ l. IsRight a start l (after_events given (after_events es (again v)))) (append_assoc taken (t ∷ []) ts)
      (subst (λ o. IsRight a start ((taken ++ t ∷ []) ++ ts) o) (events_along given es (again v)) (i v (given ++ es) x.1 x.0))
  right_on taken given t ts again (refused es) x i = record { seen = taken; bad = t; after = ts; is_unread = refl; are_all = refl; begins = x.0; never = x.1 }

  right_from : {taken : List T} {given : List E} (w : List (Work G E H)) (ts : List T) → IsInStep bottom w → IsOnTrack a ends start w taken None given
      → RightFrom a start taken given ts (run a m w ts)
  right_from w [] s x = right_end w x
  right_from {taken} {given} w (t ∷ ts) s x =
      let n = suc (work_weight m w) in
      right_on taken given t ts (λ v. run a m v ts) (step a n w t) (turns n w t x (omega arith) s) (λ v es q y. right_from {taken = taken ++ t ∷ []} {given = es} v ts q y)

pub run_is_right : {G T E H : Type 0} {a : Table G T E H} {m : G → ℕ} {bottom : G → Bool} {ends : T → Bool} → IsMended a m bottom ends
    → (w : List (Work G E H)) (ts : List T) → IsInStep bottom w → IsRight a w ts (run a m w ts)
run_is_right {a = a} {m = m} {ends = ends} c w ts s = let r = right_from c w ts s (starts a ends w) in grind arith
