-- The words and lemmas that the answers of functions use, passed on from one place. Declares nothing.
pub use Rattle.yaml_parser.proofs.Arms.{reads, error_is, comma_skipped, mapping_ends, gives_at, answers_written, faulted_as, is_error, fails, gives, goes, goes_by, leaves, leaves_at, names_nothing, not_as, on_err, push_after, stay, stay_push, stays, under_no_colon, went, wrote, wrote_event}
pub use Rattle.yaml_parser.proofs.DocumentArms.{bare_begins, marked_begins, directing_on, directives_begin, stream_ends, tag_directive_taken, version_refused, version_taken}
pub use Rattle.yaml_parser.proofs.Ends.{refuses, refuses_for}
pub use Rattle.yaml_parser.proofs.Holding.{begun, failed, keeps, pulled}
pub use Rattle.yaml_parser.proofs.LoadSteps.{begins, end_is_not, end_run, ends_well, faults, goes_on, inside_run, last_run, misplaced_run, misplaces, next_document, no_end, one_document, push_stops, start_run, starts_inside, stays_inside}
pub use Rattle.yaml_parser.proofs.NameLemmas.{core_is, empty_chars, nonempty_chars, primary_is, put_text, resolved_empty, resolved_nonempty, secondary_is, undeclared_other, undeclared_primary, undeclared_resolves, undeclared_secondary}
pub use Rattle.yaml_parser.proofs.Nesting.{directed_outside, explicit_outside, nothing_given, nothing_taken}
pub use Rattle.yaml_parser.proofs.NodeArms.{alias_taken, alias_text, alias_unknown, anchor_before, anchor_text, bare, nothing_there, properties_left, resolve_fails, scalar_taken, starts, tag_unknown, tag_unknown_after, taken_with, with_number}
pub use Rattle.yaml_parser.proofs.Openings.{look_fails}
pub use Rattle.yaml_parser.proofs.Pairs.{answers_plain, at_same, if_none, pair_taken}
pub use Rattle.yaml_parser.proofs.Parsing.{advanced, event_given, fault_met, fresh_holds, given_at_once, misplaced_holds, next_read, none_waits, not_closed, seen, settings_hold, stopped, waits_still}
pub use Rattle.yaml_parser.proofs.Says.{says_after, says_directed, says_explicit, says_inside, says_node}
pub use Rattle.yaml_parser.proofs.Steps.{if_some_at, looked, looks_on}
pub use Rattle.yaml_parser.proofs.Ways.{after_goes_apart, explicit_right, goes_apart}
pub use Rattle.yaml_parser.proofs.Common.{Advances, answered, [], after_braces, after_brackets, after_dash, block_mapping_value_empty, after_mapping, document_end_refuses, after_scalar, after_sequence, document_end_unmarked, all_placed, anchor_alone, anchor_tag, ap, arith, At, block_mapping, block_sequence, BlockMappingKey, BlockSequenceEntry, bytes_eq, codes, common_steps, document_content_empty, directives_refuses, Directing, DirectiveWithoutDocumentEnd, documents_bare, documents_explicit, DocumentStartToken, ends, Err, Ev, false, flow_mapping_value_empty, no_flow_mapping_value_empty, flow_mapping, flow_mapping_entries_node, flow_sequence, flow_mapping_valued_empty, flow_mapping_valued_node, FlowMappingEntry, FlowSequenceEntry, get_by_text, Goal, Has, IfSome, if◌then◌else◌, indentless_sequence_entries_end, inl, inr, is_document_end, is_open, is_own, is_some, IsHeld, IsNamed, flow_sequence_entries_node, kind_of, Loads, mapping_under, node_anchor, node_tag, NodeContent, None, not, nothing_refuses, Ok, option_map, flow_value_empty, parsed, pair_node_empty, pair_node_written, perhaps_tag_of, placed, properties_only, Raw, Reader, refl, Some, start_of, stays_steady, string_bytes, subst, sym, tag_alone, tag_anchor, TakesBoth, Tok, tok_of, true, with_anchor, ◌+◌, ◌∙◌, ◌≡◌, ◌⊎◌, block_turns, document_turns, flow_turns, plain_flow_turns, plain_turns, read, behind, all_shown, problem_of, Faulted}
unfoldable pub use Rattle.yaml_parser.proofs.Common.{string_chars}
