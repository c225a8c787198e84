-- A grammar as a table. A goal is what is to be read next. A row says what a goal makes of the next token: whether it takes it, and
-- what stands in the goal's place then.
use Rattle.std.specs.Prelude.{◌≡◌, Bool, if◌then◌else◌, List, [], ◌∷◌, Option, Some, None}

-- What stands in a goal's place. A goal holds what was read before its event could be given, as a node's anchor.
pub data Part (G E : Type 0) : Type 0 where
  -- a goal that holds nothing
  read : G → Part G E
  -- a goal that holds what is held here
  keep : G → Part G E
  -- a goal that holds the row's token too
  hold : G → Part G E
  -- an event
  say : E → Part G E
  -- the event of the row's token, with what is held
  show : Part G E
  -- the event of a node that is not written, with what is held
  empty : Part G E

pub data Row (G E : Type 0) : Type 0 where
  -- the token is read
  takes : List (Part G E) → Row G E
  -- the token stays the next one
  leaves : List (Part G E) → Row G E

-- a row, and the tokens that it is for
pub data Case (G T E : Type 0) : Type 0 where
  on : (T → Bool) → Row G E → Case G T E
  -- all tokens that no case before is for
  otherwise : Row G E → Case G T E

-- goals, tokens, events, what can be held
pub record Table (G T E H : Type 0) : Type 0 where
  -- A goal's cases. The first one that is for the token counts; a token that no case is for is refused.
  pub cases : G → List (Case G T E)
  pub event : H → T → E
  pub empty_event : H → E
  pub nothing : H
  pub holding : T → H → H

abbrev pub row_of : {G T E : Type 0} → List (Case G T E) → T → Option (Row G E)
row_of [] t = None
row_of (on test r ∷ cs) t = if test t then Some r else row_of cs t
row_of (otherwise r ∷ cs) t = Some r

-- ---- what a table reads

-- what is still to be read and to be said, in order
pub data Work (G E H : Type 0) : Type 0 where
  reading : G → H → Work G E H
  saying : E → Work G E H

abbrev pub part_work : {G T E H : Type 0} → Table G T E H → H → T → Part G E → Work G E H
part_work a h t (read g) = reading g a.nothing
part_work a h t (keep g) = reading g h
part_work a h t (hold g) = reading g (a.holding t h)
part_work a h t (say e) = saying e
part_work a h t show = saying (a.event h t)
part_work a h t empty = saying (a.empty_event h)

-- the parts of a row at its token, before other work
abbrev pub before : {G T E H : Type 0} → Table G T E H → H → T → List (Part G E) → List (Work G E H) → List (Work G E H)
before a h t [] w = w
before a h t (p ∷ ps) w = part_work a h t p ∷ before a h t ps w

-- This work reads these tokens, all of them, and says these events.
pub data Derives {G T E H : Type 0} (a : Table G T E H) : List (Work G E H) → List T → List E → Type 0 where
  nothing_left : Derives a [] [] []
  says : {e : E} {w : List (Work G E H)} {ts : List T} {es : List E} → Derives a w ts es → Derives a (saying e ∷ w) ts (e ∷ es)
  by_taking : {g : G} {h : H} {w : List (Work G E H)} {t : T} {ts : List T} {es : List E} (ps : List (Part G E)) → row_of (a.cases g) t ≡ Some (takes ps)
      → Derives a (before a h t ps w) ts es → Derives a (reading g h ∷ w) (t ∷ ts) es
  by_leaving : {g : G} {h : H} {w : List (Work G E H)} {t : T} {ts : List T} {es : List E} (ps : List (Part G E)) → row_of (a.cases g) t ≡ Some (leaves ps)
      → Derives a (before a h t ps w) (t ∷ ts) es → Derives a (reading g h ∷ w) (t ∷ ts) es
