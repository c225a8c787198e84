-- The words of other crates and of specs/ that many proofs here use, passed on from one place. Declares nothing.
pub use Rattle.defs_event.proofs.NameLemmas.{after_append, append_named, both_some, named_append, NamedFirst}
pub use Rattle.defs_event.proofs.Shaped.{named_shaped, Shaped}
pub use Rattle.defs_event.specs.Grammar.{event_of}
pub use Rattle.defs_event.specs.Names.{are_allowed, at_document, both, declared, is_each_once, names_after_all, number, perhaps_resolved, prefix_or_undeclared, resolved, undeclared, under_name, versions, with_anchor}
pub use Rattle.defs_event.specs.Place.{block_mapping, block_sequence, directive_next, flow_mapping, flow_sequence, node_next}
pub use Rattle.defs_event.specs.Properties.{directives_tokens}
pub use Rattle.defs_event.specs.Push.{between, ends, inside, load, load_from, Loaded, push}
pub use Rattle.defs_event.specs.Raw.{tag, version}
pub use Rattle.defs_event.specs.Stream.{by_leaving, nothing_left, says}
pub use Rattle.defs_text.specs.Text.{is_empty}
unfoldable pub use Rattle.defs_text.specs.Text.{string_chars}
pub use Rattle.model_parser.proofs.Block.{block_mapping_value_empty, indentless_sequence_entries_end, pair_node_empty, pair_node_written, plain_turns, block_turns}
pub use Rattle.model_parser.proofs.Common.{[], anchor_of, and_parts, ap, append-nil, append_assoc, arith, as_tokens, at_directive, Awaits, AwaitsAt, before, begins_content, begins_node, BeginsPlaced, Bool, both_ways, cases, codes, Collection, Derives, Directive, directive_token, empty, empty_event, ends_content, ends_document, ends_entry, ends_flow_key, ends_flow_pair, ends_indentless_entry, ends_item, ends_item_key, ends_part, Ev, event_at, event_then, events_of, Extent, false, first_may, Goal, goal_of, grammar, HasNoText, HasPlacedTo, Held, in_pair, inl, inr, is_after, is_directive, is_in_mapping, is_over_document, is_under, IsAt, IsAtFirst, IsFor, IsGoing, IsNested, IsNext, IsNoDirective, IsSettled, IsThere, kind_of, Leaves, List, map, may_begin, named, Names, names_after, nat_lt, Next, next_after, next_at, no_names, None, not, nothing_held, nothing_written, open_after, open_at, Option, other_next, past, perhaps_anchor_of, Place, placed_before, PlacedWork, Places, Position, position_at, positions_of, Raw, raws_of, reading, refl, Refuses, resolved_event, Row, row_of, saying, show, Some, StreamPlaces, StreamPlacesTo, StreamSays, Style, subst, suc, sym, Takes, takes, takes_last, then_event, to_end, to_last, to_next, Tok, tok_of_kind, toks, top, true, wants_token, work_of, Works, works, zero, ℕ, ◌&&◌, ◌++◌, ◌+◌, ◌<◌, ◌||◌, ◌∙◌, ◌∷◌, ◌≡◌, ◌≢◌, ◌⊎◌}
pub use Rattle.model_parser.proofs.Document.{document_end_refuses, document_end_unmarked, document_content_empty, directives_next, directives_refuses, documents_bare, documents_directives, documents_explicit, document_turns}
pub use Rattle.model_parser.proofs.Endings.{end_events, end_tokens, ends_so, goes_so, past_tokens}
pub use Rattle.model_parser.proofs.Falls.{after_text_events, grammar_completes, text, text_event}
pub use Rattle.model_parser.proofs.First.{tok_is}
pub use Rattle.model_parser.proofs.Flow.{flow_mapping_value_empty, no_flow_mapping_value_empty, flow_mapping_entries_node, flow_mapping_valued_empty, flow_mapping_valued_node, flow_sequence_entries_node, flow_value_empty, plain_flow_turns, flow_turns}
pub use Rattle.model_parser.proofs.Nodes.{after_braces, after_brackets, after_dash, after_mapping, after_scalar, after_sequence, anchor_alone, anchor_tag, node_anchor, node_tag, nothing_refuses, properties_only, tag_alone, tag_anchor}
pub use Rattle.model_parser.proofs.Places.{nowhere, plain_before, plain_work, with_positions}
pub use Rattle.model_parser.proofs.Quiet.{plain_placed}
pub use Rattle.model_parser.proofs.Settling.{mapping_under}
pub use Rattle.model_parser.proofs.Standing.{first_of, looks, pops, top_of}
pub use Rattle.model_parser.proofs.Completions.{rest_by, said_by}
pub use Rattle.model_parser.proofs.StepRows.{by_steps, first_any, needs_tokens, not_refused, row_read, steps}
pub use Rattle.model_parser.specs.Place.{open_under}
pub use Rattle.model_parser.specs.Rest.{IsBottom, with_directives}
pub use Rattle.model_parser.specs.Stands.{GoesOn, IsOnTrack}
pub use Rattle.model_parser.specs.declared.kind.Kind.{Kind}
pub use Rattle.model_parser.specs.declared.state.State.{State}
pub use Rattle.std.proofs.Common.{bytes_eq, cond, Err, IfOk, if◌then◌else◌, is_some, length, nat_le, Ok, option_map, Result, rules, String, string_bytes, unwrap_or, ◌==◌, ◌≤◌}
pub use Rattle.std.proofs.Math.Bool.{or-false, or-true, or_assoc}
pub use Rattle.std.proofs.lemmas.Bool.{and_from, and_left, and_right, false_from_ne_true, lt-leb, not-true, not_from_true, or_cases, or_from, or_parts}
pub use Rattle.std.proofs.lemmas.Bool.Decides.{Decides-like, nat_tests, same_from_decides}
pub use Rattle.std.proofs.lemmas.Grind.{common_steps}
pub use Rattle.std.proofs.lemmas.List.{length-append, map-append, nil_from_length}
pub use Rattle.std.proofs.lemmas.Slice.Eq.{bytes_eq-Decides}
pub use Rattle.std.specs.BTreeMap.{BTreeMap, get_by_text}
pub use Rattle.std.specs.Option.{IfNone, IfSome, IsSome}
pub use Rattle.std.specs.Result.{is_err, IfErr, IsErr, IsErrAnd, OnErr, OnOk}
pub use Rattle.std.specs.declared.alloc.Global.{Global}
pub use Rattle.yaml_parser.specs.Ahead.{indicator_of, scalar_of, Skips, SkipsOne, TakesBoth}
pub use Rattle.yaml_parser.specs.Apart.{GoesApart, GoesOnBy, GoesOnWith, IsOpen, SaysBefore, StandsApart, StandsBefore, token_at, two_that_come}
pub use Rattle.yaml_parser.specs.At.{answered, Answers, At, Carries, Passes, Stops, Fails, Faulted, goal_after_event, is_done, is_idle, is_over, is_pair_end, IsPastColon, IsPending, IsPlaced, IsTold, named_by, names_at, names_by, Reads, Stayed, Took}
pub use Rattle.yaml_parser.specs.Blames.{Blames, EndsInAnchor, fits, HasUndeclaredHandle, HasUnknownAnchor, is_of_names, IsCause, problem_at, problem_for, problem_in, problem_of, SpoilsDirectives, StandsAt}
pub use Rattle.yaml_parser.specs.Declares.{Declares, HasRead}
pub use Rattle.yaml_parser.specs.Derived.{IsDerived, stood}
pub use Rattle.yaml_parser.specs.Directing.{Directing, DirectsTo, IsAfter}
pub use Rattle.yaml_parser.specs.Follows.{Explains, Follows, IsComplete, IsWhole, listed, Refused}
pub use Rattle.yaml_parser.specs.Halts.{IsHalted, may_wait, perhaps}
pub use Rattle.yaml_parser.specs.Handed.{BeginAt, behind, IsAwake, IsHanded, IsRightAfter, IsStopped, last_position, peeked_tok, shown_list, taken_toks}
pub use Rattle.yaml_parser.specs.Held.{Advances, Continues, goal_after, Holds, IsHeld, IsMet, Notes, Stands}
pub use Rattle.yaml_parser.specs.Kinds.{IsOfKind}
pub use Rattle.yaml_parser.specs.Loads.{after_document, EndsSo, Going, Loads, no_call, no_event, one_call, one_event, PullsAll, PushesNext, pushing, Receives, RunsOn}
pub use Rattle.yaml_parser.specs.Named.{is_own, IsNamed, IsOwn, prefix_of}
pub use Rattle.yaml_parser.specs.Nests.{BeginsNested, is_open, IsInside, opened}
pub use Rattle.yaml_parser.specs.Parsed.{has_end, is_document_end, is_document_start, is_fresh, is_stream_end, Parsed, parsed, read, read_so, stays_steady, up_to_end}
pub use Rattle.yaml_parser.specs.Properties.{Has, kept_tag, name_of, Registers}
pub use Rattle.yaml_parser.specs.Pulls.{answer_of, GivesEvent, GivesFault, IsSound, Looks, MeetsFault, Peeks, Pulls, ShowsLooked, ShowsNext, Waits}
pub use Rattle.yaml_parser.specs.Resolves.{IsUndeclared, Resolves}
pub use Rattle.yaml_parser.specs.Seen.{fault_seen}
pub use Rattle.yaml_parser.specs.Settings.{AreAll, named_since, names_since}
pub use Rattle.yaml_parser.specs.Shown.{all_placed, ev_of, perhaps_tag_of, placed, start_of, tag_of}
pub use Rattle.yaml_parser.specs.View.{events_left, fault_kept, no_document}
pub use Rattle.yaml_parser.specs.Work.{KeepsInput, Moves, weight, weights, work}
pub use Rattle.yaml_parser.specs.declared.event.Event.{Event}
pub use Rattle.yaml_parser.specs.declared.names.Keeping.{Keeping}
pub use Rattle.yaml_parser.specs.declared.pull.EventReader.{EventReader}
pub use Rattle.yaml_parser.specs.declared.reader.Reader.{Reader}
pub use Rattle.yaml_parser.specs.declared.slot.EventSlot.{EventSlot}
pub use Rattle.yaml_parser.specs.declared.tokens.Tokens.{Tokens}
pub use Rattle.yaml_scanner.specs.Scanned.{HandsOut, Scanned, scanned}
pub use Rattle.yaml_scanner.specs.Tokens.{is_end}
pub use Rattle.yaml_tokens.specs.ErrorReport.{ErrorReport}
pub use Rattle.yaml_tokens.specs.Shown.{all_shown, shown, tok_of}
pub use Rattle.yaml_tokens.specs.declared.problem.Fault.{Fault}
pub use Rattle.yaml_tokens.specs.declared.problem.Fault.TheVariants.{OutOfMemory}
pub use Rattle.yaml_tokens.specs.declared.problem.Problem.{Problem}
pub use Rattle.yaml_tokens.specs.declared.problem.Problem.TheVariants.{BlockMappingKey, BlockSequenceEntry, DirectiveWithoutDocumentEnd, DocumentStartToken, FlowMappingEntry, FlowSequenceEntry, NodeContent, RepeatedHandle, SecondVersion, UndeclaredHandle, UnknownAnchor}
pub use Rattle.yaml_tokens.specs.declared.token.Token.{Token}
