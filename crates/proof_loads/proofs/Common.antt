-- The words of other crates and of specs/ that the proofs here use, passed on from one place. Declares nothing.
pub use Rattle.std.proofs.Common.{[], All, ap, append-nil, append_assoc, arith, Bool, codes, decimal, drop, Err, false, flat_map, IfSome, if◌then◌else◌, inl, inr, length, List, map, max, nat_eq, nat_le, nat_lt, None, not, Ok, Option, option_map, pos, refl, replicate, Result, Some, subst, suc, sym, take, true, true≢false, zero, ℕ, ◌%◌, ◌&&◌, ◌*◌, ◌++◌, ◌+◌, ◌-◌, ◌/◌, ◌<◌, ◌==◌, ◌||◌, ◌∙◌, ◌∷◌, ◌≡◌, ◌≢◌, ◌≤◌, ◌⊎◌}
pub use Rattle.std.proofs.lemmas.Bool.{and_from, and_parts, both_ways, eqb-true, le-ltb, ltb-true, ne_eqb, not-true, or_parts, or_right}
pub use Rattle.std.proofs.lemmas.Bool.Decides.{nat_tests}
pub use Rattle.std.proofs.lemmas.Fmt.{decimal_is_IsNumeral}
pub use Rattle.std.proofs.lemmas.List.{append_cancel_right, length-append, length-map, map-append, nil_from_length, same_from_push}
pub use Rattle.std.proofs.lemmas.List.Folds.{list_all-append}
pub use Rattle.std.proofs.lemmas.Str.Parse.{digit_from_value}
pub use Rattle.std.specs.Char.{digit_value, is_ascii_alphanumeric, is_ascii_digit, is_digit}
unfoldable pub use Rattle.std.specs.Fmt.{digits}
pub use Rattle.std.specs.List.{ends_with, list_all, list_any}
pub use Rattle.std.specs.Str.Parse.{AllDigits, IsNumeral}
pub use Rattle.defs_event.proofs.OneByOne.{one_by_one}
pub use Rattle.defs_event.specs.Event.{Ev}
pub use Rattle.defs_event.specs.Meaning.{Means}
pub use Rattle.defs_event.specs.Names.{are_allowed, named, Names, names_after, no_names, perhaps_resolved, resolved_event, under_name, with_anchor}
pub use Rattle.defs_event.specs.Nested.{Nest, nest, nest_pair, nested_mapping, nested_scalar, nested_sequence, nested_stream, NestedDocument, no_nest_pairs, no_nests, with_node}
pub use Rattle.defs_event.specs.PulledList.{Answer, event, fault, given, IsSettled, MayFollow}
pub use Rattle.defs_event.specs.Push.{before_stream, between, Ending, faulted, load, load_from, Loaded, no_document, Standing, unfinished, well}
pub use Rattle.defs_event.specs.Raw.{Raw}
pub use Rattle.defs_event.specs.ReadAs.{ReadAs}
pub use Rattle.defs_event.specs.Reading.{reading}
pub use Rattle.defs_event.specs.Stream.{AgreeAt, BeginsPlaced, events_of, Foretells, HasPlacedTo, IsPlacedStream, IsStream, NoneBegins, raws_of, StreamSays, to_next, whole_stream}
pub use Rattle.defs_event.specs.Unfinished.{at_work, documents_of, Loader, loader_after, new_loader, Opened, opened_mapping, opened_sequence, reads, Unfinished, with_event, with_event_at, with_events, with_mapping_end, with_root, with_sequence_end, with_start, with_tree}
pub use Rattle.defs_layout.specs.Anchored.{Anchor, begun, is_name}
pub use Rattle.defs_layout.specs.BlockLines.{AreLines, blank, contents, full, Line, spell_line, spell_lines}
pub use Rattle.defs_layout.specs.Gap.{AreEmptyLines, comment_line, empty_line, GapLine, IsGap, IsLineText, next_line, spaces, spell_ending, spell_gap, spell_gap_line}
unfoldable pub use Rattle.defs_layout.specs.Gap.{is_line_character}
pub use Rattle.defs_layout.specs.Json.{AreElements, AreMembers, array, element, element_levels, Elements, empty_array, empty_object, false_word, IsJson, IsWellFormed, Json, JsonText, last_element, last_member, levels, member, member_levels, Members, null_word, object, spell, spell_elements, spell_members, spell_text, string, tree_of, true_word}
pub use Rattle.defs_layout.specs.JsonGap.{Blank, blank_character, space, TabsBeginLines}
pub use Rattle.defs_layout.specs.JsonNumber.{are_digits, Exponent, exponent, Fraction, fraction, is_exponent, is_fraction, is_number, is_whole, no_exponent, no_fraction, Number, number, plus, spell_exponent, spell_fraction, spell_minus, spell_number}
pub use Rattle.defs_layout.specs.JsonString.{are_pieces, character_of, four_digits, is_hex_digit, is_piece, is_surrogate, itself, letter_of, Piece, Short, short, spell_pieces, spell_string, unescaped, unicode}
unfoldable pub use Rattle.defs_layout.specs.JsonString.{is_unescaped}
pub use Rattle.defs_layout.specs.JsonTokens.{element_tokens, json_tokens, member_tokens, string_token}
pub use Rattle.defs_layout.specs.Layout.{anchored, anchors_after, anchors_after_field, AreDocuments, AreEntries, AreFields, AreFoldedLines, AreLinesOf, AreLineTexts, BeginsWithText, below, beside, Block, Comment, comment, compact, Documents, doubled, empty_hash, EndsInText, Entries, entry, explicit, Field, field, Fields, folded, folded_header, implicit, indented_lines, Inline, IsAfterRoot, IsBlock, IsComment, IsField, IsInline, IsLayout, IsPlain, IsRoot, IsScalar, IsValue, json, last_document, last_entry, last_field, Layout, literal, MayFollowScalarKey, no_comment, plain, quoted, Root, Scalar, scalar, single_quoted, spell_block, spell_comment, spell_documents, spell_entries, spell_field, spell_fields, spell_inline, spell_literal, spell_root, spell_scalar, spell_value, trees_of, Value}
unfoldable pub use Rattle.defs_layout.specs.Layout.{is_on_one_line}
pub use Rattle.defs_layout.specs.LayoutTokens.{all_field_tokens, block_tokens, documents_tokens, entry_tokens, field_tokens, inline_tokens, layout_tokens, marked, root_tokens, scalar_token, value_tokens}
pub use Rattle.defs_layout.specs.QuotedText.{body_value, double, HasQuotedTokens, quote_of, Quotes, single, style_of}
pub use Rattle.defs_text.specs.BlockScalar.{BlockStyle, breaks, Chomping, column_by, content_row, deepest_start, empty_row, has_content, Header, header_of, is_further_text, is_outside, is_spaces, leading_spaces, Row, rows_of, starts_with_tab, text_after, text_of, value_before_end, value_before_text}
unfoldable pub use Rattle.defs_text.specs.BlockScalar.{digit_of, is_content_line, is_empty_line, row_of, sign_of}
pub use Rattle.defs_text.specs.Breaks.{has_no_break, is_blanks_and_comment, split}
pub use Rattle.defs_text.specs.Classes.{is_at_end, is_at_gap, is_document_marker, is_one_of, tab}
unfoldable pub use Rattle.defs_text.specs.Classes.{are_marks, is_anchor_name, is_blank, is_blank_or_end, is_break, is_flow, is_nul}
pub use Rattle.defs_text.specs.FlowScalar.{begins_with, content, Element, elements, has_document_marker, Lines, Spelled, value_by}
unfoldable pub use Rattle.defs_text.specs.FlowScalar.{begins_with_marker, double_quoted_element, double_quoted_value, escape, is_character_code, numeric_escape, plain_element, plain_value, single_quoted_element, single_quoted_value}
pub use Rattle.defs_text.specs.Position.{first_position, Position, position_after, position_past}
pub use Rattle.defs_text.specs.Tags.{after, all_of, leading}
pub use Rattle.defs_text.specs.Text.{has_no_nul, is_empty, up_to_nul}
pub use Rattle.defs_token.specs.Account.{before_past, FlowKind, innermost_column, is_adjacent, mapping, sequence}
pub use Rattle.defs_token.specs.BlockPiece.{block_read, BlockRead}
pub use Rattle.defs_token.specs.Column.{innermost, is_deeper, is_in_column, not_ended, opened}
pub use Rattle.defs_token.specs.FlowEntry.{begun_by, entries_past, Entry, filled, first_entry, fresh, Had, is_keyed, is_renewed, no_pair, settled, takes_pair}
pub use Rattle.defs_token.specs.Following.{are_empty, block_may_end, goes_on_quoted, may_precede, quoted_may_end}
pub use Rattle.defs_token.specs.Indentation.{awaits_at, awaits_past, begins_line, colon_may_precede, dash_may_precede, has_tab_before_piece, has_tab_within, is_indented_by_spaces, last_line, least_column}
pub use Rattle.defs_token.specs.Key.{begins_free_line, free, is_waiting, line_past, line_past_separation, taken}
pub use Rattle.defs_token.specs.Lines.{ends_with_dash, further_lines_stand, has_dash_before_flow, lines_fit, plain_lines_fit, quoted_lines_fit, without_last}
pub use Rattle.defs_token.specs.Piece.{begins_with_space_or_break, goes_on_with_name}
pub use Rattle.defs_token.specs.Plain.{after_blank, begins_flow, begins_plain, ends_with_content, goes_on, inside, is_value_indicator, is_whole_plain, on_line, Stand, stops}
pub use Rattle.defs_token.specs.Row.{IsRead, IsRowFrom, IsShown}
pub use Rattle.defs_token.specs.RowAccount.{Account, account_past, before_by, first_account, is_in_flow, least_for, level_of, may_stand, on_one_line, past_piece, Site, site_at}
pub use Rattle.defs_token.specs.Separation.{is_separation}
pub use Rattle.defs_token.specs.Step.{act_of, another, block_scalar, flow_collection, gives_node, has_break, is_marker, is_on_line, plain_scalar, Previous, previous_by, quoted_scalar, spelled, Step}
pub use Rattle.defs_token.specs.Token.{block_end, block_entry, block_mapping_start, block_sequence_start, document_start, flow_entry, flow_mapping_end, flow_mapping_start, flow_sequence_end, flow_sequence_start, stream_end, stream_start, Style, Tok, Token}
pub use Rattle.defs_token.specs.Tokens.{begun_inside, begun_outside, Colon, ends_with_stream, put, stream_position, tokens_before, tokens_from, tokens_of_row}
pub use Rattle.defs_token.specs.Toks.{toks}
pub use Rattle.defs_tree.proofs.GrammarLaws.{list_all-more}
pub use Rattle.defs_tree.proofs.LinesLaws.{ends_with-one, ends_with-step, lines_of_ended}
pub use Rattle.defs_tree.proofs.RealTexts.{is_real_character, real_text-characters}
pub use Rattle.defs_tree.proofs.Unquoted.{unquoted}
pub use Rattle.defs_tree.specs.Escapes.{double_quoted, escaped_code, hexadecimal_digit, written_escapes}
unfoldable pub use Rattle.defs_tree.specs.Escapes.{written_character}
pub use Rattle.defs_tree.specs.Lines.{ended, lines_of, onto_first_line}
pub use Rattle.defs_tree.specs.Literal.{begins_as_marker, first_full_line_is_indented, is_line_feed, literal_header}
unfoldable pub use Rattle.defs_tree.specs.Literal.{is_literal_character, is_literal_text, is_root_literal}
pub use Rattle.defs_tree.specs.Order.{tree_eq}
pub use Rattle.defs_tree.specs.Quoting.{has_indicator_first}
unfoldable pub use Rattle.defs_tree.specs.Quoting.{is_quoted, is_unfit_for_plain}
pub use Rattle.defs_tree.specs.Spelling.{spelling}
pub use Rattle.defs_tree.specs.Tree.{bad_value, hash, items_of, pairs_of, real, Tree}
pub use Rattle.defs_tree.specs.Typing.{is_real_text}
unfoldable pub use Rattle.defs_tree.specs.Typing.{is_decimal, typing}
pub use Rattle.model_parser.proofs.Places.{without_positions}
pub use Rattle.model_parser.proofs.Streams.{stream_by}
unfoldable pub use Rattle.model_scanner.proofs.OnLiterals.{scan_on_literals}
pub use Rattle.model_scanner.proofs.Runs.{not_refused, one_fault, one_list, one_run}
unfoldable pub use Rattle.model_scanner.specs.Fetch.{fetch}
pub use Rattle.model_scanner.specs.Run.{HasTokens, here, IsRefused, Reaches, scan, start, there}
pub use Rattle.model_scanner.specs.State.{Key, ScannerState}
pub use Rattle.model_scanner.specs.TextTokens.{HasToks}
pub use Rattle.proof_layouts.proofs.Layouts.Documents.{tokens_read_as_their_trees}
pub use Rattle.proof_layouts.proofs.Loads.{foretold_are_not_refused, streams_are_loaded, streams_are_not_cut}
pub use Rattle.proof_layouts.proofs.Whole.{dump_is_laid_out, dumps_are_laid_out_in_turn}
pub use Rattle.proof_lexers.proofs.Blocks.Columns.{spell_append}
pub use Rattle.proof_lexers.proofs.Blocks.Written.{feed, split_spell, texts}
pub use Rattle.proof_lexers.proofs.Bridges.{and_false, or_false}
pub use Rattle.proof_lexers.proofs.Plain.Turns.{or_true}
pub use Rattle.proof_lexers.proofs.Quoted.Values.{parts}
pub use Rattle.proof_lexers.specs.HeaderEnds.{indicator_of, is_in_line}
pub use Rattle.proof_lexers.specs.PlainEnds.{collection_of}
pub use Rattle.proof_loads.specs.AtStart.{IsAtStart}
pub use Rattle.proof_loads.specs.Documents.{AliasesInsideTheirNodeAreBadValues, IsOpen, ReadDocumentsComeBack}
pub use Rattle.proof_loads.specs.Laws.{AnswersAreSettled, CharactersAreTheText, DumpsMeanTheirTree, EventsOfReadTextsAreRead, JsonTextsAreLoaded, JsonTextsAreWithoutNul, JsonTextsMeanTheirTree, OneFault, OneListOfEventsBefore, OneListOfPushedEventsBefore, ReadTextsAreLoaded, ReadTextsAreNotRefused, ReadTextsHaveNoFaultButMemory, ReadTextsHaveOneListOfEvents, ReadTextsHaveTheirTrees, StringsAreTheText, TextsAreAnswered}
pub use Rattle.proof_loads.specs.LayoutTexts.{LayoutsAreWithoutNul, LayoutsMeanTheirTrees}
pub use Rattle.proof_loads.specs.PlacedEvents.{HasEvents}
pub use Rattle.proof_loads.specs.Rows.{EventsAreOfTheRow, TextsWithAFaultHaveNoRow}
pub use Rattle.proof_loads.specs.Spelled.{IsWithoutNul}
pub use Rattle.proof_loads.specs.TextEvents.{AnswersText, AreFirst, BeginsEvents, ComesAfter, IsFaultOf, no_stream, no_token, wants_memory, whole}
pub use Rattle.proof_loads.specs.TokenLaws.{JsonTextsHaveNoOtherTokens, JsonTextsHaveTheirTokens, LayoutsHaveNoOtherTokens, LayoutsHaveTheirTokens, LayoutsInTurnAreNotRefused, LayoutsInTurnHaveTheirTokens, QuotedTextsHaveTheirTokens}
pub use Rattle.proof_row.proofs.Meanings.{one_meaning, read_again, somewhere, with_somewhere}
pub use Rattle.proof_row.proofs.Pieces.{clean_up_to_end}
pub use Rattle.proof_scanner.proofs.Complete.{texts_with_a_row_are_read}
pub use Rattle.proof_scanner.proofs.Sound.Sound.{tokens_are_of_a_row}
pub use Rattle.yaml_parser.specs.Blames.{Blames, fits, is_of_names, IsCause, StandsAt}
pub use Rattle.yaml_parser.specs.Derived.{IsDerived, stood}
pub use Rattle.yaml_parser.specs.Follows.{Explains, Follows}
pub use Rattle.yaml_parser.specs.Loads.{EndsSo, Loads, no_call, one_call, PullsAll, Receives}
pub use Rattle.yaml_parser.specs.Parsed.{has_end, Parsed, read, read_so}
pub use Rattle.yaml_parser.specs.Pulls.{GivesEvent, IsSound, KeepsSettings, Pulls}
pub use Rattle.yaml_scanner.specs.Follows.{AreBehind, AreSettled, BeginsWith, IsReached}
pub use Rattle.yaml_scanner.specs.Scanned.{IsRefusal, MayBe, Scanned, ScansIn}
pub use Rattle.yaml_tokens.specs.ErrorReport.{ErrorReport}
pub use Rattle.yaml_tokens.specs.declared.problem.Fault.{Fault}
pub use Rattle.yaml_tokens.specs.declared.problem.Fault.TheVariants.{At}
pub use Rattle.yaml_tokens.specs.declared.problem.Problem.{Problem}
pub use Rattle.std.proofs.lemmas.List.Elements.{All-append, All-cons, All-head, All-nil, All-pop, All-replicate, All-tail}
