-- What the events are where no further token comes: before a fault of the scanner.
use Rattle.std.specs.Prelude.{◌≡◌, List, [], ◌∷◌, ◌++◌, Bool, true, false, Option, None, Some, IfSome}
use Rattle.defs_text.specs.Position.{Position}
use Rattle.defs_token.specs.Token.{Token}
use Rattle.defs_token.specs.Toks.{toks}
use Rattle.defs_event.specs.Event.{Ev}
use Rattle.defs_event.specs.Raw.{Raw}
use Rattle.yaml_parser.specs.Apart.{IsOpen}
use Rattle.defs_event.specs.Stream.{to_next, StreamPlacesTo}
use Rattle.yaml_parser.specs.Derived.{IsDerived, ForetellsRaw, stood}

-- whether an event may wait for the token after it, whose position it has: the start of the stream, the end of a document, and a scalar that
-- is not written
abbrev pub may_wait : Raw → Bool
may_wait Raw.stream_start = true
may_wait Raw.document_end = true
may_wait (Raw.empty_scalar None None) = true
may_wait _ = false

abbrev pub perhaps : Option Raw → List Raw
perhaps None = []
perhaps (Some e) = e ∷ []

-- The events are those that these tokens, all of which were taken, say where the next one is wanted, each at its position: so they are one
-- list. A stream begins with the tokens and with the events. Each stream that begins with the tokens begins with these events and with
-- the missing one, if one is missing; and after these, two different events may come. So of the events that the tokens make certain only
-- one may be missing, which waits for the position of the next token.
pub record IsHalted (settings : List Bool) (keep_tags : Bool) (tokens : List Token) (events : List (Ev × Position)) : Type 0 where
  pub raw : List Raw
  pub derived : IsDerived settings keep_tags tokens raw events
  pub so_far : StreamPlacesTo to_next tokens (stood raw events)
  pub missing : Option Raw
  pub waits : IfSome missing (λ e. may_wait e ≡ true)
  pub certain : ForetellsRaw (toks tokens) (raw ++ perhaps missing)
  pub goes_on : IsOpen (toks tokens) (raw ++ perhaps missing)
