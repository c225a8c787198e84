-- Which tokens are a stream's, and which events it has.
use Rattle.std.specs.Prelude.{◌≡◌, ◌≢◌, Bool, List, [], ◌∷◌, ◌++◌, Option, Some, None, IfSome, map}
use Rattle.defs_text.specs.Position.{Position}
use Rattle.defs_token.specs.Token.{Tok, Token}
use Rattle.defs_event.specs.Event.{Ev}
use Rattle.defs_event.specs.Raw.{Raw}
use Rattle.defs_event.specs.Table.{Part, takes, leaves, row_of, Work, reading, saying, before, Derives}
use Rattle.defs_event.specs.Grammar as table
use Rattle.defs_event.specs.Names.{named, no_names}

-- all that is to be read at first
abbrev pub whole_stream : List (Work table.Goal Raw table.Held)
whole_stream = reading table.stream table.nothing_held ∷ []

-- These tokens are a stream, and it says these events, before names are resolved.
abbrev pub StreamSays : List Tok → List Raw → Type 0
StreamSays tokens raws = Derives table.grammar whole_stream tokens raws

-- These are the tokens of a stream, and its events: the grammar reads the tokens, all of them, and what it says has these events
-- where its names are resolved. With `keep_tags` a declared handle counts in later documents too.
pub record IsStream (keep_tags : Bool) (tokens : List Tok) (events : List Ev) : Type 0 where
  pub raws : List Raw
  pub says : StreamSays tokens raws
  pub has_events : named keep_tags no_names raws ≡ Some events

-- ---- beginnings

-- A stream begins with these tokens and events.
pub record Begins (keep_tags : Bool) (tokens : List Tok) (events : List Ev) : Type 0 where
  pub more_tokens : List Tok
  pub more_events : List Ev
  pub stream : IsStream keep_tags (tokens ++ more_tokens) (events ++ more_events)

-- Each stream that begins with these tokens begins with these events.
abbrev pub Foretells : Bool → List Tok → List Ev → Type 0
Foretells keep_tags tokens events =
    (ts : List Tok) (es : List Ev) → IsStream keep_tags (tokens ++ ts) es → (fs : List Ev) × (es ≡ events ++ fs)

-- No stream begins with these tokens.
abbrev pub NoneBegins : Bool → List Tok → Type 0
NoneBegins keep_tags tokens = (ts : List Tok) (es : List Ev) → IsStream keep_tags (tokens ++ ts) es → ⊥

-- ---- positions

-- An event stands at the token by which its row is chosen: at its own token, if it has one; at the `:` of a pair whose key is not written;
-- else at the token after it. A flow mapping that ends right after a comma ends at the comma, and a value that is not written, of a pair of
-- a flow mapping that has only its `:`, stands at the `:`: at the token before. Of the end of a single pair that begins with `?` no position
-- is promised.
abbrev pub position_at : Token → (before : Option Position) → Raw → Option Position
position_at t before Raw.flow_mapping_end_at_comma = before
position_at t before Raw.unwritten_value = before
position_at t before Raw.pair_end = None
position_at t before _ = Some t.position

-- work of which each event to be said has the position that is promised
abbrev pub PlacedWork : Type 0
PlacedWork = List (Work table.Goal (Raw × Option Position) table.Held)

abbrev pub placed_by : (Raw → Option Position) → List (Work table.Goal Raw table.Held) → PlacedWork
placed_by f [] = []
placed_by f (reading g h ∷ w) = reading g h ∷ placed_by f w
placed_by f (saying e ∷ w) = saying (e, f e) ∷ placed_by f w

-- the parts of a row at its token, before other work
abbrev pub placed_before : Token → (before : Option Position) → table.Held → List (Part table.Goal Raw) → PlacedWork → PlacedWork
placed_before t b h ps w = placed_by (position_at t b) (before table.grammar h t.tok ps []) ++ w

-- How far tokens are read: to the end of the work; up to the next token, which is wanted; or up to the last of them, which the next row
-- takes.
pub data Extent : Type 0 where
  to_end : Extent
  to_next : Extent
  to_last : Extent

-- This work reads these tokens so far, and says these events at these positions. The token before them stands there.
pub data Places : Extent → (before : Option Position) → PlacedWork → List Token → List (Raw × Position) → Type 0 where
  nothing_left : {b : Option Position} → Places to_end b [] [] []
  wants_token : {b : Option Position} {g : table.Goal} {h : table.Held} {w : PlacedWork} → Places to_next b (reading g h ∷ w) [] []
  takes_last : {b : Option Position} {g : table.Goal} {h : table.Held} {w : PlacedWork} {t : Token} (ps : List (Part table.Goal Raw))
      → row_of (table.cases g) t.tok ≡ Some (takes ps) → Places to_last b (reading g h ∷ w) (t ∷ []) []
  says : {x : Extent} {b : Option Position} {e : Raw} {o : Option Position} {m : Position} {w : PlacedWork} {ts : List Token} {es : List (Raw × Position)}
      → IfSome o (λ p. m ≡ p) → Places x b w ts es → Places x b (saying (e, o) ∷ w) ts ((e, m) ∷ es)
  by_taking : {x : Extent} {b : Option Position} {g : table.Goal} {h : table.Held} {w : PlacedWork} {t : Token} {ts : List Token} {es : List (Raw × Position)} (ps : List (Part table.Goal Raw))
      → row_of (table.cases g) t.tok ≡ Some (takes ps) → Places x (Some t.position) (placed_before t b h ps w) ts es → Places x b (reading g h ∷ w) (t ∷ ts) es
  by_leaving : {x : Extent} {b : Option Position} {g : table.Goal} {h : table.Held} {w : PlacedWork} {t : Token} {ts : List Token} {es : List (Raw × Position)} (ps : List (Part table.Goal Raw))
      → row_of (table.cases g) t.tok ≡ Some (leaves ps) → Places x b (placed_before t b h ps w) (t ∷ ts) es → Places x b (reading g h ∷ w) (t ∷ ts) es

-- A stream's tokens, read so far, say these events, before names are resolved, at these positions.
abbrev pub StreamPlacesTo : Extent → List Token → List (Raw × Position) → Type 0
StreamPlacesTo x tokens events = Places x None (reading table.stream table.nothing_held ∷ []) tokens events

-- These tokens are a stream, and it says these events, before names are resolved, at these positions.
abbrev pub StreamPlaces : List Token → List (Raw × Position) → Type 0
StreamPlaces tokens events = StreamPlacesTo to_end tokens events

abbrev pub raws_of : List (Raw × Position) → List Raw
raws_of es = map (λ e. e.0) es

abbrev pub events_of : List (Ev × Position) → List Ev
events_of es = map (λ e. e.0) es

abbrev pub positions_of : List (Ev × Position) → List Position
positions_of es = map (λ e. e.1) es

-- These are the tokens of a stream and its events, with their positions.
pub record IsPlacedStream (keep_tags : Bool) (tokens : List Token) (events : List (Ev × Position)) : Type 0 where
  pub raws : List (Raw × Position)
  pub says : StreamPlaces tokens raws
  pub has_events : named keep_tags no_names (raws_of raws) ≡ Some (events_of events)
  pub has_positions : map (λ e. e.1) raws ≡ positions_of events

-- The same events, each at the same position but for ends of mappings.
abbrev pub AgreeAt : List (Ev × Position) → List (Ev × Position) → Type 0
AgreeAt [] [] = Unit {0}
AgreeAt (e ∷ es) (f ∷ fs) = (e.0 ≡ f.0) × (e.0 ≢ Ev.mapping_end → e.1 ≡ f.1) × AgreeAt es fs
AgreeAt es fs = ⊥

-- A stream's tokens, read so far, have these events, with their positions.
pub record HasPlacedTo (x : Extent) (keep_tags : Bool) (tokens : List Token) (events : List (Ev × Position)) : Type 0 where
  pub raws : List (Raw × Position)
  pub says : StreamPlacesTo x tokens raws
  pub has_events : named keep_tags no_names (raws_of raws) ≡ Some (events_of events)
  pub has_positions : map (λ e. e.1) raws ≡ positions_of events

-- A stream begins with these tokens and events, at these positions.
pub record BeginsPlaced (keep_tags : Bool) (tokens : List Token) (events : List (Ev × Position)) : Type 0 where
  pub more_tokens : List Token
  pub more_events : List (Ev × Position)
  pub stream : IsPlacedStream keep_tags (tokens ++ more_tokens) (events ++ more_events)
