-- The positions of events, on some streams, by computing.
use Prim.Native.String.{String}
use Rattle.model_parser.proofs.Common.{[], BeginsPlaced, cases, codes, Ev, Extent, false, Held, IsPlacedStream, leaves, List, None, nothing_written, Option, placed_before, PlacedWork, Places, plain_event, plain_raw, Position, Raw, reading, refl, Row, row_of, Some, StreamPlaces, StreamPlacesTo, Style, takes, takes_last, to_last, to_next, Tok, Token, wants_token, ℕ, ◌++◌, ◌∷◌, ◌≡◌}
use Rattle.defs_event.specs.Grammar.{Goal}
use Rattle.defs_event.specs.Stream.{nothing_left, says, by_taking, by_leaving}
use Rattle.defs_token.specs.Token.{alias, anchor, block_end, block_entry, block_mapping_start, flow_entry, flow_mapping_end, flow_mapping_start, flow_sequence_end, flow_sequence_start, key, stream_end, stream_start, value}
use Rattle.model_parser.proofs.Places.{nowhere}

-- ---- by computing

-- what is left to show after a turn
abbrev Turned : Extent → Option Position → Held → PlacedWork → Token → List Token → List (Raw × Position) → Option (Row Goal Raw) → Type 0
Turned to_last b h w t [] [] (Some (takes ps)) = Unit {0}
Turned x b h w t ts es (Some (takes ps)) = Places x (Some t.position) (placed_before t b h ps w) ts es
Turned x b h w t ts es (Some (leaves ps)) = Places x b (placed_before t b h ps w) (t ∷ ts) es
Turned x b h w t ts es None = ⊥

by_row : {x : Extent} {b : Option Position} {g : Goal} {h : Held} {w : PlacedWork} {t : Token} {ts : List Token} {es : List (Raw × Position)}
    → Turned x b h w t ts es (row_of (cases g) t.tok) → Places x b (reading g h ∷ w) (t ∷ ts) es
by_row {x} {b} {g} {h} {w} {t} {ts} {es} d = by x ts es (row_of (cases g) t.tok) refl d
  where
    by : (x : Extent) (ts : List Token) (es : List (Raw × Position)) (r : Option (Row Goal Raw)) → row_of (cases g) t.tok ≡ r
        → Turned x b h w t ts es r → Places x b (reading g h ∷ w) (t ∷ ts) es
    by to_last [] [] (Some (takes ps)) q d = takes_last ps q
    by x ts es (Some (takes ps)) q d = by_taking ps q d
    by x ts es (Some (leaves ps)) q d = by_leaving ps q d
    by x ts es None q d = absurd d

-- ---- in the first line

abbrev column : ℕ → Position
column n = record { index = n; line = 1; col = n }

abbrev at : ℕ → Tok → Token
at n t = record { position = column n; tok = t }

abbrev word : ℕ → String → Token
word n text = at n (Tok.scalar Style.plain (codes text))

abbrev said : ℕ → Raw → Raw × Position
said n e = (e, column n)

abbrev plain : ℕ → String → Raw × Position
plain n text = said n (plain_raw (codes text))

-- a document without `---`, whose node begins at column 0, in a text that ends at this column
abbrev DocumentPlaces : ℕ → List Token → List (Raw × Position) → Type 0
DocumentPlaces n ts es = StreamPlaces (at 0 stream_start ∷ ts ++ at n stream_end ∷ [])
    (said 0 Raw.stream_start ∷ said 0 (Raw.document_start []) ∷ es ++ said n Raw.document_end ∷ said n Raw.stream_end ∷ [])

record Positions : Type 0 where
  -- `{a, b: , : c, }`
  in_a_mapping : DocumentPlaces 15
      (at 0 flow_mapping_start ∷ word 1 "a" ∷ at 2 flow_entry ∷ at 4 key ∷ word 4 "b" ∷ at 5 value ∷ at 7 flow_entry ∷
      at 9 value ∷ word 11 "c" ∷ at 12 flow_entry ∷ at 14 flow_mapping_end ∷ [])
      (said 0 (Raw.flow_mapping_start None None) ∷ plain 1 "a" ∷ said 2 nothing_written ∷ plain 4 "b" ∷ said 5 Raw.unwritten_value ∷
      said 9 nothing_written ∷ plain 11 "c" ∷ said 12 Raw.flow_mapping_end_at_comma ∷ [])
  -- `{a: b}`: without a comma, the mapping ends at its bracket
  at_a_bracket : DocumentPlaces 6
      (at 0 flow_mapping_start ∷ at 1 key ∷ word 1 "a" ∷ at 2 value ∷ word 4 "b" ∷ at 5 flow_mapping_end ∷ [])
      (said 0 (Raw.flow_mapping_start None None) ∷ plain 1 "a" ∷ plain 4 "b" ∷ said 5 Raw.flow_mapping_end ∷ [])
  -- `[*a, ? b]`: a pair that begins with `?` begins there, and its empty value stands at the token after the key
  in_a_sequence : DocumentPlaces 9
      (at 0 flow_sequence_start ∷ at 1 (alias (codes "a")) ∷ at 3 flow_entry ∷ at 5 key ∷ word 7 "b" ∷ at 8 flow_sequence_end ∷ [])
      (said 0 (Raw.flow_sequence_start None None) ∷ said 1 (Raw.alias (codes "a")) ∷ said 5 Raw.pair_start ∷ plain 7 "b" ∷
      said 8 nothing_written ∷ (Raw.pair_end, nowhere) ∷ said 8 Raw.flow_sequence_end ∷ [])
  -- outside flow, in the places that the tokens have: a mapping whose first value is a sequence without indentation, and whose second
  -- is not written
  in_blocks : DocumentPlaces 9
      (at 0 block_mapping_start ∷ at 1 key ∷ word 1 "a" ∷ at 2 value ∷ at 3 block_entry ∷ word 4 "b" ∷
      at 5 key ∷ word 5 "c" ∷ at 6 value ∷ at 8 block_end ∷ [])
      (said 0 (Raw.mapping_start None None) ∷ plain 1 "a" ∷ said 3 (Raw.indentless_sequence_start None None) ∷ plain 4 "b" ∷
      said 5 Raw.indentless_sequence_end ∷ plain 5 "c" ∷ said 8 nothing_written ∷ said 8 Raw.mapping_end ∷ [])
  -- `a`, where the next token is wanted: the end of the document waits for it
  after_a_word : StreamPlacesTo to_next (at 0 stream_start ∷ word 0 "a" ∷ [])
      (said 0 Raw.stream_start ∷ said 0 (Raw.document_start []) ∷ plain 0 "a" ∷ [])
  -- `{? a`, before a bracket that ends the mapping: the value that is not written stands there
  before_a_bracket : StreamPlacesTo to_last
      (at 0 stream_start ∷ at 0 flow_mapping_start ∷ at 1 key ∷ word 3 "a" ∷ at 4 flow_mapping_end ∷ [])
      (said 0 Raw.stream_start ∷ said 0 (Raw.document_start []) ∷ said 0 (Raw.flow_mapping_start None None) ∷ plain 3 "a" ∷
      said 4 nothing_written ∷ [])

positions : Positions
positions = search (by_row, says, nothing_left, wants_token) depth 60

-- ---- `[1, &a ]`: a node of an anchor alone stands at the token after it

abbrev first_tokens : List Token
first_tokens = at 0 stream_start ∷ at 0 flow_sequence_start ∷ []

abbrev later_tokens : List Token
later_tokens = word 1 "1" ∷ at 2 flow_entry ∷ at 4 (anchor (codes "a")) ∷ at 7 flow_sequence_end ∷ at 8 stream_end ∷ []

abbrev first_events : List (Ev × Position)
first_events = (Ev.stream_start, column 0) ∷ (Ev.document_start, column 0) ∷ (Ev.sequence_start 0 None, column 0) ∷ []

abbrev later_events : List (Ev × Position)
later_events =
    (plain_event (codes "1"), column 1) ∷ (Ev.scalar [] Style.plain 1 None, column 7) ∷ (Ev.sequence_end, column 7) ∷
    (Ev.document_end, column 8) ∷ (Ev.stream_end, column 8) ∷ []

placed : IsPlacedStream false (first_tokens ++ later_tokens) (first_events ++ later_events)
placed = record {
  raws =
      said 0 Raw.stream_start ∷ said 0 (Raw.document_start []) ∷ said 0 (Raw.flow_sequence_start None None) ∷ plain 1 "1" ∷
      said 7 (Raw.empty_scalar (Some (codes "a")) None) ∷ said 7 Raw.flow_sequence_end ∷ said 8 Raw.document_end ∷ said 8 Raw.stream_end ∷ [];
  says = search (by_row, says, nothing_left) depth 60;
  has_events = refl;
  has_positions = refl;
}

begun : BeginsPlaced false first_tokens first_events
begun = record { more_tokens = later_tokens; more_events = later_events; stream = placed }
