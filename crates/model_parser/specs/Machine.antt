-- A machine over a table: it takes token by token, and stops at the first one that it refuses.
use Rattle.std.specs.Prelude.{ℕ, zero, suc, ◌+◌, List, [], ◌∷◌, ◌++◌, Option, Some, None}
use Rattle.defs_event.specs.Table.{Part, read, keep, hold, Row, takes, leaves, Table, row_of, Work, reading, saying, before}

-- ---- how many turns a token needs, if each goal has a weight

abbrev pub part_weight : {G E : Type 0} → (G → ℕ) → Part G E → ℕ
part_weight m (read g) = m g
part_weight m (keep g) = m g
part_weight m (hold g) = m g
part_weight m _ = 1

abbrev pub parts_weight : {G E : Type 0} → (G → ℕ) → List (Part G E) → ℕ
parts_weight m [] = 0
parts_weight m (p ∷ ps) = part_weight m p + parts_weight m ps

abbrev pub work_weight : {G E H : Type 0} → (G → ℕ) → List (Work G E H) → ℕ
work_weight m [] = 0
work_weight m (reading g h ∷ w) = m g + work_weight m w
work_weight m (saying e ∷ w) = suc (work_weight m w)

-- ---- one token

-- the events said before the token is taken, with the work after it, or before it is refused
pub data Turned (G E H : Type 0) : Type 0 where
  goes : List E → List (Work G E H) → Turned G E H
  refused : List E → Turned G E H

abbrev pub and_before : {G E H : Type 0} → E → Turned G E H → Turned G E H
and_before e (goes es w) = goes (e ∷ es) w
and_before e (refused es) = refused (e ∷ es)

-- what a row makes of the token, where `again` makes the next turn
abbrev pub by_row : {G T E H : Type 0} → Table G T E H → H → T → List (Work G E H) → (again : List (Work G E H) → Turned G E H) → Option (Row G E) → Turned G E H
by_row a h t w again (Some (takes ps)) = goes [] (before a h t ps w)
by_row a h t w again (Some (leaves ps)) = again (before a h t ps w)
by_row a h t w again None = refused []

abbrev pub step : {G T E H : Type 0} → Table G T E H → (turns : ℕ) → List (Work G E H) → T → Turned G E H
step a zero w t = refused []
step a (suc n) [] t = refused []
step a (suc n) (saying e ∷ w) t = and_before e (step a n w t)
step a (suc n) (reading g h ∷ w) t = by_row a h t w (λ v. step a n v t) (row_of (a.cases g) t)

-- ---- all tokens

pub data Outcome (T E : Type 0) : Type 0 where
  reads : List E → Outcome T E
  -- the tokens end too early
  unfinished : List E → Outcome T E
  -- the first of these tokens is refused
  stops : List E → (unread : List T) → Outcome T E

abbrev pub after_events : {T E : Type 0} → List E → Outcome T E → Outcome T E
after_events es (reads fs) = reads (es ++ fs)
after_events es (unfinished fs) = unfinished (es ++ fs)
after_events es (stops fs ts) = stops (es ++ fs) ts

-- what is left at the end of the tokens
abbrev pub finish : {G T E H : Type 0} → List (Work G E H) → Outcome T E
finish [] = reads []
finish (saying e ∷ w) = after_events (e ∷ []) (finish w)
finish (reading g h ∷ w) = unfinished []

-- what comes of a token's turn, where `again` reads the tokens after it
abbrev pub go_on : {G T E H : Type 0} → T → List T → (again : List (Work G E H) → Outcome T E) → Turned G E H → Outcome T E
go_on t ts again (goes es w) = after_events es (again w)
go_on t ts again (refused es) = stops es (t ∷ ts)

-- the outcome of this work on these tokens
abbrev pub run : {G T E H : Type 0} → Table G T E H → (weight : G → ℕ) → List (Work G E H) → List T → Outcome T E
run a m w [] = finish w
run a m w (t ∷ ts) = go_on t ts (λ v. run a m v ts) (step a (suc (work_weight m w)) w t)
