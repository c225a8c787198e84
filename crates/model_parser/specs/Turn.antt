-- One turn of the parser: it takes the next token or leaves it, and gives an event or none.
use Rattle.std.specs.Prelude.{◌≡◌, ◌⊎◌, List, [], ◌∷◌, ◌++◌, true, false, Option, Some, None, IfSome}
use Rattle.defs_text.specs.Position.{Position}
use Rattle.defs_token.specs.Token.{Tok, Token}
use Rattle.defs_event.specs.Raw.{Raw}
use Rattle.defs_event.specs.Stream.{Extent, position_at}
use Rattle.model_parser.specs.declared.state.State.{State}
use Rattle.model_parser.specs.Goal.{Goal}
use Rattle.defs_event.specs.Place.{open_past, next_past}
use Rattle.model_parser.specs.Place.{open_at, next_at, top, is_node, is_after, is_directive_next, is_past_directives, IsNoDirective}
use Rattle.model_parser.specs.Rest.{Awaits, AwaitsAt, IsNested, IsFor}
use Rattle.model_parser.specs.Stands.{IsNext}

-- an event, or none
abbrev pub event_then : Option Raw → List Raw → List Raw
event_then None es = es
event_then (Some x) es = x ∷ es

abbrev pub then_event : List Raw → Option Raw → List Raw
then_event es None = es
then_event es (Some x) = es ++ x ∷ []

-- These tokens and events are awaited there, after this event.
abbrev pub Then : Option Raw → (g : Goal) (ss : List State) → List Tok → List Raw → Type 0
Then e g ss ts es = (fs : List Raw) × (es ≡ event_then e fs) × Awaits g ss ts fs

-- This is a position of the event that is given at this token, if one is. The token before it stands there.
abbrev pub IsAt : (before : Option Position) → Token → Option Raw → Position → Type 0
IsAt b k None m = Unit {0}
IsAt b k (Some e) m = IfSome (position_at k b e) (λ p. m ≡ p)

-- at the first of these tokens
abbrev pub IsAtFirst : (before : Option Position) → List Token → Option Raw → Position → Type 0
IsAtFirst b [] e m = Unit {0}
IsAtFirst b (k ∷ ts) e m = IsAt b k e m

-- The token that was looked at, if one was, is the first of these.
abbrev pub IsThere : Option Tok → List Token → Type 0
IsThere None ts = Unit {0}
IsThere (Some t) [] = ⊥
IsThere (Some t) (k ∷ ts) = Unit {0}

abbrev pub event_at : Option Raw → Position → List (Raw × Position) → List (Raw × Position)
event_at None m es = es
event_at (Some e) m es = (e, m) ∷ es

-- The token is taken.
pub record Takes (g : Goal) (ss : List State) (t : Tok) (e : Option Raw) (g' : Goal) (ss' : List State) : Type 0 where
  pub nested : IsNested ss → IsFor g ss → IsNested ss' × IsFor g' ss'
  pub comes : IsFor g ss → (ts : List Tok) (es : List Raw) → Awaits g' ss' ts es → Awaits g ss (t ∷ ts) (event_then e es)
  pub goes : IsFor g ss → (ts : List Tok) (es : List Raw) → Awaits g ss (t ∷ ts) es → Then e g' ss' ts es
  pub places : IsFor g ss → (x : Extent) (b : Option Position) (k : Token) (m : Position) → k.tok ≡ t → IsAt b k e m
      → (ts : List Token) (es : List (Raw × Position)) → AwaitsAt x (Some k.position) g' ss' ts es → AwaitsAt x b g ss (k ∷ ts) (event_at e m es)
  pub opened : open_past t (open_at g ss) ≡ open_at g' ss'
  pub next : IsFor g ss → next_past t ≡ next_at g' ss'
  pub past : IsFor g ss → is_past_directives g' ss' ≡ false

-- The token may come here.
abbrev pub MayCome : (g : Goal) (ss : List State) → Option Tok → Type 0
MayCome g ss None = ⊥
MayCome g ss (Some t) = (ts : List Tok) × (es : List Raw) × Awaits g ss (t ∷ ts) es

-- What is read next there, where the token stays: a node just where one is read here; or none, since the token may come here without one,
-- or is a directive where a document ends.
pub data Settles (g : Goal) (ss : List State) (p : Option Tok) (g' : Goal) (ss' : List State) : Type 0 where
  alike : next_at g ss ≡ next_at g' ss' → is_after (top g ss) ≡ false → Settles g ss p g' ss'
  alike_after : next_at g ss ≡ next_at g' ss' → is_directive_next p ≡ false → Settles g ss p g' ss'
  without_node : is_node (next_at g' ss') ≡ false → MayCome g ss p → Settles g ss p g' ss'
  before_directive : is_after (top g' ss') ≡ true → is_directive_next p ≡ true → Settles g ss p g' ss'

-- The token stays.
pub record Leaves (g : Goal) (ss : List State) (p : Option Tok) (e : Option Raw) (g' : Goal) (ss' : List State) : Type 0 where
  pub nested : IsNested ss → IsFor g ss → IsNested ss' × IsFor g' ss'
  pub comes : IsNested ss → IsFor g ss → (ts : List Tok) (es : List Raw) → Awaits g' ss' ts es → Awaits g ss ts (event_then e es)
  pub goes : IsNested ss → IsFor g ss → (ts : List Tok) (es : List Raw) → IsNext p ts → Awaits g ss ts es → Then e g' ss' ts es
  pub places : IsNested ss → IsFor g ss → (x : Extent) (b : Option Position) (m : Position) (ts : List Token) → IsThere p ts → IsAtFirst b ts e m
      → (es : List (Raw × Position)) → AwaitsAt x b g' ss' ts es → AwaitsAt x b g ss ts (event_at e m es)
  pub opened : open_at g ss ≡ open_at g' ss'
  pub settles : IsFor g ss → Settles g ss p g' ss'
  pub past : IsFor g ss → is_past_directives g' ss' ≡ true → (is_past_directives g ss ≡ true) ⊎ IsNoDirective p

-- Nothing that is awaited begins with that token.
abbrev pub Refuses : (g : Goal) (ss : List State) → Tok → Type 0
Refuses g ss t = IsNested ss → IsFor g ss → (ts : List Tok) (es : List Raw) → Awaits g ss (t ∷ ts) es → ⊥
