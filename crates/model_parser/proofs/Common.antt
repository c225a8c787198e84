-- The words of other crates and of specs/ that many proofs here use, passed on from one place. Declares nothing.
pub use Rattle.defs_event.proofs.Texts.{plain_event, plain_raw, tag_of_text, three_documents}
pub use Rattle.defs_event.specs.Event.{Ev, Tag}
pub use Rattle.defs_event.specs.Grammar.{after_anchor, after_tag, block_mapping_entries, block_mapping_value, block_sequence_entries, cases, content, directives, document_end, documents, empty_event, explicit_document, flow_mapping_comma, flow_mapping_entries, flow_mapping_value, flow_mapping_valued, flow_sequence_comma, flow_sequence_entries, flow_value, grammar, Held, in_block, in_flow, in_pair, indentless_sequence_entries, key, no_flow_mapping_value, node, nothing_held, Place, stream, then_in, value}
pub use Rattle.defs_event.specs.Names.{named, Names, names_after, no_names, resolved_event}
pub use Rattle.defs_event.specs.Place.{Collection, Next, next_after, next_past, open_after, open_past, other_next}
pub use Rattle.defs_event.specs.Properties.{anchor_of, anchored, anchored_tagged, directive_token, perhaps_anchor_of, perhaps_tag_of, Properties, tag_of, tag_token, tagged, tagged_anchored}
pub use Rattle.defs_event.specs.Raw.{Directive, nothing_written, Raw}
pub use Rattle.defs_event.specs.Stream.{AgreeAt, BeginsPlaced, events_of, Extent, HasPlacedTo, IsPlacedStream, IsStream, placed_before, placed_by, PlacedWork, Places, position_at, positions_of, raws_of, StreamPlaces, StreamPlacesTo, StreamSays, takes_last, to_end, to_last, to_next, wants_token, whole_stream}
pub use Rattle.defs_event.specs.Table.{before, by_leaving, by_taking, Case, Derives, empty, keep, leaves, nothing_left, on, otherwise, Part, part_work, read, reading, Row, row_of, say, saying, says, show, Table, takes, Work}
pub use Rattle.defs_text.specs.Position.{Position}
pub use Rattle.defs_token.specs.Token.{Style, Tok, Token}
pub use Rattle.defs_token.specs.Toks.{toks}
pub use Rattle.model_parser.specs.Goal.{Goal}
pub use Rattle.model_parser.specs.Kinds.{begins_content, begins_node, ends_content, ends_document, ends_entry, ends_flow_key, ends_flow_pair, ends_indentless_entry, ends_item, ends_item_key, ends_part, HasNoText, is_directive, kind_of, tok_of_kind}
pub use Rattle.model_parser.specs.Machine.{after_events, and_before, finish, go_on, goes, Outcome, parts_weight, reads, refused, run, step, stops, Turned, work_weight}
pub use Rattle.model_parser.specs.Outcome.{Begins, IsRight, NeverGoesOn}
pub use Rattle.model_parser.specs.Place.{is_after, is_directive_next, is_node, is_over_document, is_past_directives, IsNoDirective, next_at, open_at, top}
pub use Rattle.model_parser.specs.Reader.{read_stream, weight}
pub use Rattle.model_parser.specs.Rest.{Awaits, AwaitsAt, context_at, first_may, goal_and, goal_of, is_in_mapping, is_under, IsFor, IsGoing, IsNested, may_begin, past, place_of, placed, with_properties, work_of, Works, works}
pub use Rattle.model_parser.specs.Stands.{as_tokens, at_directive, goes_on, IsNext, IsSettled}
pub use Rattle.model_parser.specs.Track.{ends_goal, GoesOn, IsOnTrack, MayBegin}
pub use Rattle.model_parser.specs.Turn.{alike, alike_after, before_directive, event_at, event_then, IsAt, IsAtFirst, IsThere, Leaves, MayCome, Refuses, Settles, Takes, Then, then_event, without_node}
pub use Rattle.model_parser.specs.declared.context.NodeContext.{NodeContext}
pub use Rattle.model_parser.specs.declared.kind.Kind.{Kind}
pub use Rattle.model_parser.specs.declared.state.State.{State}
pub use Rattle.std.proofs.Common.{[], ap, append-nil, append_assoc, arith, Bool, codes, false, IfSome, inl, inr, List, map, nat_lt, None, not, Option, refl, Some, subst, suc, sym, true, zero, ℕ, ◌&&◌, ◌++◌, ◌+◌, ◌<◌, ◌||◌, ◌∙◌, ◌∷◌, ◌≡◌, ◌≢◌, ◌⊎◌}
pub use Rattle.std.proofs.lemmas.Bool.{and_parts, both_ways, ltb-true}
