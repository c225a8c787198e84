-- Short words for rows of steps.
use Prim.Native.String.{String}
use Rattle.defs_token.specs.Row.{IsRowFrom}
use Rattle.defs_token.specs.RowAccount.{Account, account_past, first_account, may_end}
use Rattle.defs_token.specs.Step.{spelled}
use Rattle.defs_token.proofs.Common.{[], Bool, codes, false, HasRow, List, None, Option, plain, Position, scalar, Some, Step, Tok, true, ℕ, ◌∷◌, ◌≡◌}

-- a position
abbrev pub position : (index line col : ℕ) → Position
position i l c = record { index = i; line = l; col = c }

-- a step: a separation, a piece, the token it shows, and whether an implicit key begins with it
abbrev pub step : (separation piece : List ℕ) → Tok → (key : Bool) → Step
step f p t k = record { separation = f; piece = p; shown = t; key = k }

-- one with which no implicit key begins
abbrev pub piece : (separation piece : String) → Tok → Step
piece f p t = step (codes f) (codes p) t false

-- a plain scalar that is written as it is read
abbrev pub word : (separation text : String) → Step
word f p = piece f p (scalar plain (codes p))

-- the same step with an implicit key that begins with it
abbrev pub keyed : Step → Step
keyed w = record w { key = true }

-- ---- rows that are none

-- whether each of the steps may stand, and no key waits after them
abbrev pub all_stand : Option Account → List Step → Bool
all_stand None ws = false
all_stand (Some a) [] = may_end a
all_stand (Some a) (w ∷ ws) = all_stand (account_past a w (spelled ws [])) ws

they_stand : (o : Option Account) (ws : List Step) → IsRowFrom o ws [] → all_stand o ws ≡ true
they_stand None ws r = absurd r
they_stand (Some a) [] r = r.1
they_stand (Some a) (w ∷ ws) r = they_stand (account_past a w (spelled ws [])) ws r.1

-- Steps are no row of a text.
pub record HasNoRow (text : String) (ws : List Step) : Type 0 where
  pub refuted : HasRow (codes text) (record { steps = ws; last = [] }) → ⊥

-- by computing
pub has_no_row : {text : String} {ws : List Step} → all_stand (Some first_account) ws ≡ false → HasNoRow text ws
has_no_row {ws = ws} e = record { refuted = λ h. cc (they_stand (Some first_account) ws h.1, e) }
