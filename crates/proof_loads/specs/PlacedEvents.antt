-- The events of a text, with their positions: no model of a scanner or a parser is in it.
use Rattle.std.specs.Prelude.{◌≡◌, ℕ, Bool, List}
use Rattle.defs_text.specs.Position.{Position}
use Rattle.defs_token.specs.Token.{Token}
use Rattle.defs_token.specs.Row.{IsRead}
use Rattle.defs_event.specs.Event.{Ev}
use Rattle.defs_event.specs.Nested.{NestedDocument, nested_stream}
use Rattle.defs_event.specs.Stream.{IsPlacedStream, events_of}

-- The text is read as tokens, these are a stream's, and these are its events, each at its position. The events are nested.
pub record HasEvents (keep_tags : Bool) (text : List ℕ) (events : List (Ev × Position)) : Type 0 where
  pub tokens : List Token
  pub has : IsRead text tokens
  pub stream : IsPlacedStream keep_tags tokens events
  pub documents : List NestedDocument
  pub events_are : events_of events ≡ nested_stream documents
