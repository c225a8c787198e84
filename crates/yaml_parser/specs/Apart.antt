-- After the same tokens and events, streams go on in two ways, or with two events.
use Rattle.std.specs.Prelude.{◌≢◌, List, [], ◌∷◌, ◌++◌}
use Rattle.defs_text.specs.Position.{Position}
use Rattle.defs_token.specs.Token.{Style, Tok, Token}
use Rattle.defs_token.specs.Toks.{toks}
use Rattle.defs_event.specs.Raw.{Raw}
use Rattle.defs_event.specs.Stream.{StreamSays, to_last, StreamPlacesTo}
use Rattle.yaml_tokens.specs.declared.problem.Problem.{Problem}
use Rattle.yaml_tokens.specs.declared.problem.Problem.TheVariants as problem
use Rattle.defs_event.specs.Place.{Collection, block_sequence, block_mapping, flow_sequence, flow_mapping, open_after, Next, node_next, directive_next, other_next, next_after}

-- A stream begins with these tokens and events, and goes on with this token and with this event.
pub record GoesOnBy (tokens : List Tok) (raw : List Raw) (token : Tok) (event : Raw) : Type 0 where
  pub more_tokens : List Tok
  pub more_events : List Raw
  pub says : StreamSays (tokens ++ token ∷ more_tokens) (raw ++ event ∷ more_events)

-- A stream begins with these tokens, and with these events and then this one.
pub record GoesOnWith (tokens : List Tok) (raw : List Raw) (event : Raw) : Type 0 where
  pub more_tokens : List Tok
  pub more_events : List Raw
  pub says : StreamSays (tokens ++ more_tokens) (raw ++ event ∷ more_events)

-- Two different events may come next. So these tokens make no further event certain.
pub record IsOpen (tokens : List Tok) (raw : List Raw) : Type 0 where
  pub event : Raw
  pub other_event : Raw
  pub one : GoesOnWith tokens raw event
  pub other : GoesOnWith tokens raw other_event
  pub two_events : event ≢ other_event

-- ---- beside a refused token

-- the token that ends the innermost collection, or the stream where none is open; and the one that begins its next entry, or a document
abbrev pub end_and_entry : List Collection → Tok × Tok
end_and_entry [] = (Tok.stream_end, Tok.document_start)
end_and_entry (block_sequence ∷ cs) = (Tok.block_end, Tok.block_entry)
end_and_entry (block_mapping ∷ cs) = (Tok.block_end, Tok.key)
end_and_entry (flow_sequence ∷ cs) = (Tok.flow_sequence_end, Tok.flow_entry)
end_and_entry (flow_mapping ∷ cs) = (Tok.flow_mapping_end, Tok.flow_entry)

-- Two tokens that may come: where a node may begin, a scalar and `[`; after a directive, `---` and one more directive; elsewhere the end
-- of the innermost collection and its next entry.
abbrev pub two_that_come : Next → List Collection → Tok × Tok
two_that_come node_next cs = (Tok.scalar Style.plain [], Tok.flow_sequence_start)
two_that_come directive_next cs = (Tok.document_start, Tok.version_directive 1 2)
two_that_come other_next cs = end_and_entry cs

-- Streams go on with each of these two tokens, and with two different events. So of the events that are certain whichever of the two
-- comes, none is missing, and there is none of a token that was not taken.
pub record GoesApart (two : Tok × Tok) (tokens : List Tok) (raw : List Raw) : Type 0 where
  pub event : Raw
  pub other_event : Raw
  pub one : GoesOnBy tokens raw two.0 event
  pub other : GoesOnBy tokens raw two.1 other_event
  pub two_events : event ≢ other_event

-- What the events beside a refused token are, by the problem and by the tokens before: those that are certain whichever of two other
-- tokens comes in its place. So where a node may begin, there is no scalar that is not written in its place; and elsewhere, what is missing
-- before the end of the collection or its next entry is there. Where a name is the cause, the two are those that may come where the
-- name stands. Where a directive has no document's end before it, this end is certain too, and is not among the events.
abbrev pub StandsApart : Problem → List Tok → List Raw → Type 0
StandsApart problem.DirectiveWithoutDocumentEnd tokens raw = GoesApart (end_and_entry []) tokens (raw ++ Raw.document_end ∷ [])
StandsApart problem.UndeclaredHandle tokens raw = GoesApart (two_that_come node_next []) tokens raw
StandsApart problem.SecondVersion tokens raw = GoesApart (two_that_come directive_next []) tokens raw
StandsApart problem.RepeatedHandle tokens raw = GoesApart (two_that_come directive_next []) tokens raw
StandsApart p tokens raw = GoesApart (two_that_come (next_after other_next tokens) (open_after [] tokens)) tokens raw

-- ---- which these are, with their positions

abbrev pub token_at : Position → Tok → Token
token_at m t = record { position = m; tok = t }

-- These are the events that the tokens say, each at its position, before the first of the two comes, at this place.
abbrev pub SaysBefore : Tok × Tok → List Token → Position → List (Raw × Position) → Type 0
SaysBefore two tokens place events = StreamPlacesTo to_last (tokens ++ token_at place two.0 ∷ []) events

-- So of the same tokens and the same problem they are one list.
abbrev pub StandsBefore : Problem → List Token → Position → List (Raw × Position) → Type 0
StandsBefore problem.DirectiveWithoutDocumentEnd tokens place events = SaysBefore (end_and_entry []) tokens place (events ++ (Raw.document_end, place) ∷ [])
StandsBefore problem.UndeclaredHandle tokens place events = SaysBefore (two_that_come node_next []) tokens place events
StandsBefore problem.SecondVersion tokens place events = SaysBefore (two_that_come directive_next []) tokens place events
StandsBefore problem.RepeatedHandle tokens place events = SaysBefore (two_that_come directive_next []) tokens place events
StandsBefore p tokens place events = SaysBefore (two_that_come (next_after other_next (toks tokens)) (open_after [] (toks tokens))) tokens place events
