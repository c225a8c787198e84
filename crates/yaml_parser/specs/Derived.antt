-- Events against tokens, whatever the setting of `keep_tags` was when each event was read.
use Rattle.std.specs.Prelude.{◌≡◌, List, [], ◌∷◌, ◌++◌, Bool, Some}
use Rattle.defs_text.specs.Position.{Position}
use Rattle.defs_token.specs.Token.{Tok, Token}
use Rattle.defs_event.specs.Event.{Ev}
use Rattle.defs_event.specs.Raw.{Raw}
use Rattle.defs_event.specs.Names.{no_names}
use Rattle.defs_token.specs.Toks.{toks}
use Rattle.defs_event.specs.Stream.{StreamSays, StreamPlaces, events_of}
use Rattle.yaml_parser.specs.Settings.{named_since}

-- Each stream that begins with these tokens begins with these events.
abbrev pub ForetellsRaw : List Tok → List Raw → Type 0
ForetellsRaw tokens raw = (ts : List Tok) (es : List Raw) → StreamSays (tokens ++ ts) es → (fs : List Raw) × (es ≡ raw ++ fs)

-- No stream that begins with these tokens can be named.
abbrev pub NoneIsNamed : (settings : List Bool) → (keep_tags : Bool) → List Tok → Type 0
NoneIsNamed settings keep_tags tokens =
    (ts : List Tok) (raw : List Raw) (es : List Ev) → StreamSays (tokens ++ ts) raw → named_since settings keep_tags no_names raw ≡ Some es → ⊥

-- the events at their positions, before names are resolved
abbrev pub stood : List Raw → List (Ev × Position) → List (Raw × Position)
stood [] events = []
stood (e ∷ raw) [] = []
stood (e ∷ raw) (v ∷ events) = (e, v.1) ∷ stood raw events

-- The tokens are a stream, with these events before names are resolved and after, at these positions.
pub record IsStreamSince (settings : List Bool) (keep_tags : Bool) (tokens : List Token) (raw : List Raw) (events : List (Ev × Position)) : Type 0 where
  pub says : StreamSays (toks tokens) raw
  pub has_events : named_since settings keep_tags no_names raw ≡ Some (events_of events)
  pub places : StreamPlaces tokens (stood raw events)

-- The events come of the tokens: a stream begins with these tokens, and with these events before names are resolved and after, at these
-- positions.
pub record IsDerived (settings : List Bool) (keep_tags : Bool) (tokens : List Token) (raw : List Raw) (events : List (Ev × Position)) : Type 0 where
  pub more_tokens : List Token
  pub more_raw : List Raw
  pub more_events : List (Ev × Position)
  pub stream : IsStreamSince settings keep_tags (tokens ++ more_tokens) (raw ++ more_raw) (events ++ more_events)
  pub named : named_since settings keep_tags no_names raw ≡ Some (events_of events)
