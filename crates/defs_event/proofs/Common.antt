-- The words of other crates and of specs/ that the proofs here use, passed on from one place. Declares nothing.
pub use Rattle.std.proofs.Common.{[], ap, arith, Bool, false, length, List, nat_eq, Option, refl, Some, subst, subst₂, suc, sym, true, zero, ◌++◌, ◌+◌, ◌↔◌, ◌∙◌, ◌∷◌, ◌≡◌}
pub use Rattle.std.specs.Prelude.{All, bytes_eq, codes, drop, Err, if◌then◌else◌, IsTrue, map, negsuc, None, Ok, option_map, pos, unwrap_or, ℕ, ℤ, ◌||◌}
pub use Rattle.defs_event.specs.Anchors.{aliased, Anchors, finished}
pub use Rattle.defs_event.specs.Event.{Ev, Tag}
pub use Rattle.defs_event.specs.Grammar.{after_anchor, after_brace, after_comma, after_tag, block_mapping_entries, block_mapping_value, block_sequence_entries, cases, content, directives, document_end, documents, explicit_document, flow_mapping_comma, flow_mapping_entries, flow_mapping_value, flow_mapping_valued, flow_sequence_comma, flow_sequence_entries, flow_value, Goal, grammar, Held, in_block, in_flow, in_pair, indentless_sequence_entries, key, no_flow_mapping_value, node, nothing_held, Place, Side, then_in, value}
pub use Rattle.defs_event.specs.Laws.{HasRead, TokensAreReadInOneWay}
pub use Rattle.defs_event.specs.Names.{are_allowed, both, core_prefix, declared, named, Names, names_after, names_after_all, no_names, number, perhaps_resolved, resolved, resolved_event, under_name}
pub use Rattle.defs_event.specs.Nested.{after_node, at_key, at_value, before_node, child_then, closes, in_sequence, in_stream, is_nested, IsNested, Nest, nest, nest_events, nest_pair, nest_pairs_events, nested_alias, nested_document_events, nested_documents_events, nested_mapping, nested_scalar, nested_sequence, nested_stream, NestedDocument, NestPairs, Nests, nests_events, no_nest_pairs, no_nests, Open, open_after, there_and, with_child, with_node, without_node}
pub use Rattle.defs_event.specs.PulledList.{Answer, event, fault, given, IsSettled, pulled_events}
pub use Rattle.defs_event.specs.Push.{before_stream, between, Ending, faulted, inside, load, load_from, Loaded, no_document, push, Standing, stopped, unfinished, well}
pub use Rattle.defs_event.specs.Raw.{Directive, Raw}
pub use Rattle.defs_event.specs.Reading.{documents_or_key, Read, read_document, read_documents, read_items, read_node, read_pairs, reading, then_read}
pub use Rattle.defs_event.specs.Scalar.{by_name, scalar_tree}
pub use Rattle.defs_event.specs.Stream.{events_of, IsStream, StreamSays, whole_stream}
pub use Rattle.defs_event.specs.Table.{before, by_leaving, by_taking, Case, Derives, leaves, nothing_left, on, otherwise, Part, part_work, read, Row, row_of, saying, says, show, Table, takes, Work}
pub use Rattle.defs_event.specs.Unfinished.{at_work, documents_of, Loader, loader_after, new_loader, noted, nothing_read, Opened, opened_mapping, opened_sequence, out_of_nesting, reads, refused, refused_at, repeats, Step, Unfinished, with_document_end, with_event, with_event_at, with_events, with_mapping_end, with_root, with_sequence_end, with_start, with_tree}
pub use Rattle.defs_text.specs.Position.{Position}
pub use Rattle.defs_token.specs.Token.{Style, Tok}
pub use Rattle.defs_tree.proofs.TypingLaws.{OfSome, signed_number-fits, typing_plain}
pub use Rattle.defs_tree.specs.Grammar.{is_among}
pub use Rattle.defs_tree.specs.Laws.{MayStandFor}
pub use Rattle.defs_tree.specs.Pairs.{AreDistinct, has_key, insert, without}
pub use Rattle.defs_tree.specs.Tree.{alias, array, bad_value, boolean, hash, integer, item, Items, items_of, no_items, no_pairs, null, pair, pair_list_of, Pairs, pairs_of, real, string, Tree}
pub use Rattle.defs_tree.specs.Typing.{false_words, fits_i64, is_real_text, signed_decimal, true_words}
unfoldable pub use Rattle.defs_tree.specs.Typing.{is_decimal, typing}
