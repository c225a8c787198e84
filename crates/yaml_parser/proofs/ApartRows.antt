-- Which two tokens may come instead of a refused one, and which events they leave certain: examples.
use Rattle.yaml_parser.proofs.Common.{[], block_mapping, directive_next, FlowMappingEntry, GoesOnBy, List, next_after, node_next, NodeContent, None, nothing_written, open_after, other_next, Raw, refl, StandsApart, Style, Tok, ◌++◌, ◌∷◌, ◌≡◌}
use Rattle.model_parser.proofs.Streams.{says_by}
use Rattle.model_parser.specs.Machine.{reads}
use Rattle.model_parser.specs.Reader.{read_stream}
use Rattle.defs_event.specs.Place.{flow_mapping as in_braces}

-- before `]` in `- ]`
abbrev after_dash : List Tok
after_dash = Tok.stream_start ∷ Tok.block_sequence_start ∷ Tok.block_entry ∷ []

-- before `]` in `{? a]`
abbrev after_key : List Tok
after_key = Tok.stream_start ∷ Tok.flow_mapping_start ∷ Tok.key ∷ Tok.scalar Style.plain [] ∷ []

-- behind the entry of a sequence without indentation, which is a key
abbrev after_entry : List Tok
after_entry = Tok.stream_start ∷ Tok.block_mapping_start ∷ Tok.key ∷ Tok.block_entry ∷ Tok.scalar Style.plain [] ∷ []

record Places : Type 0 where
  -- A node may begin after `-`, and not after a scalar or an anchor.
  dash_leaves_a_node : next_after other_next after_dash ≡ node_next
  scalar_leaves_none : next_after other_next after_key ≡ other_next
  anchor_leaves_none : next_after other_next (Tok.stream_start ∷ Tok.anchor [] ∷ []) ≡ other_next
  directive_leaves_directives : next_after other_next (Tok.stream_start ∷ Tok.version_directive 1 2 ∷ []) ≡ directive_next
  -- A sequence without indentation is not begun by a token, so its mapping is the innermost collection.
  mapping_is_innermost : open_after [] after_entry ≡ block_mapping ∷ []
  braces_are_innermost : open_after [] after_key ≡ in_braces ∷ []
  nothing_is_open : open_after [] (Tok.stream_start ∷ Tok.flow_sequence_start ∷ Tok.flow_sequence_end ∷ []) ≡ []

places : Places
places = search

-- Streams go on so with one of the two tokens.
goes_on : {tokens : List Tok} {raw : List Raw} {t : Tok} {e : Raw} (ts : List Tok) (es : List Raw) → read_stream (tokens ++ t ∷ ts) ≡ reads (raw ++ e ∷ es) → GoesOnBy tokens raw t e
goes_on ts es h = record { more_tokens = ts; more_events = es; says = says_by h }

-- In `- ]` the start of the sequence is the last event: next is the scalar of `- a`, or the start of `- []`.
no_scalar_after_dash : StandsApart NodeContent after_dash (Raw.stream_start ∷ Raw.document_start [] ∷ Raw.sequence_start None None ∷ [])
no_scalar_after_dash = record {
  event = Raw.scalar [] Style.plain None None;
  other_event = Raw.flow_sequence_start None None;
  one = goes_on (Tok.block_end ∷ Tok.stream_end ∷ []) (Raw.sequence_end ∷ Raw.document_end ∷ Raw.stream_end ∷ []) refl;
  other = goes_on (Tok.flow_sequence_end ∷ Tok.block_end ∷ Tok.stream_end ∷ []) (Raw.flow_sequence_end ∷ Raw.sequence_end ∷ Raw.document_end ∷ Raw.stream_end ∷ []) refl;
  two_events = λ e. cc;
}

-- In `{? a]` the value that is not written is the last event: next is the end of `{? a}`, or the next key of `{? a, b}`.
value_after_key : StandsApart FlowMappingEntry after_key (Raw.stream_start ∷ Raw.document_start [] ∷ Raw.flow_mapping_start None None ∷ Raw.scalar [] Style.plain None None ∷ nothing_written ∷ [])
value_after_key = record {
  event = Raw.flow_mapping_end;
  other_event = Raw.scalar [] Style.plain None None;
  one = goes_on (Tok.stream_end ∷ []) (Raw.document_end ∷ Raw.stream_end ∷ []) refl;
  other = goes_on (Tok.scalar Style.plain [] ∷ Tok.flow_mapping_end ∷ Tok.stream_end ∷ []) (nothing_written ∷ Raw.flow_mapping_end ∷ Raw.document_end ∷ Raw.stream_end ∷ []) refl;
  two_events = λ e. cc;
}
