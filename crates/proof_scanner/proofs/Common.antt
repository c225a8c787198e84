-- The words of other crates and of specs/ that the proofs here use, passed on from one place. Declares nothing.
pub use Rattle.std.proofs.Common.{[], ap, append-nil, append_assoc, arith, Bool, codes, drop, Err, false, if◌then◌else◌, inl, inr, length, length-append, List, map, nat_le, nat_lt, None, not, Ok, Option, refl, replicate, Result, slice_index, Some, subst, suc, sym, take, true, zero, ℕ, ◌&&◌, ◌*◌, ◌++◌, ◌+◌, ◌-◌, ◌<◌, ◌==◌, ◌||◌, ◌∙◌, ◌∷◌, ◌≡◌, ◌≢◌, ◌≤◌, ◌⊎◌}
pub use Rattle.std.proofs.Math.Bool.{or-false, or-true}
pub use Rattle.std.proofs.lemmas.Bool.{cases_Bool, and_parts, eqb-true, not-false, not-true, or_left, or_parts, or_right}
pub use Rattle.std.proofs.lemmas.Bool.Decides.{nat_tests}
pub use Rattle.std.proofs.lemmas.List.{append_cancel_left, append_cancel_right, drop-append-le, length-take, replicate-append-replicate, take-append-drop, take-append-le, length-map}
pub use Rattle.std.specs.Char.{digit_value, is_digit}
pub use Rattle.std.specs.List.{insert, list_all, list_any}
pub use Rattle.defs_text.specs.BlockScalar.{after_digit, after_sign, after_style, all_lines, block_value, BlockStyle, Body, body, Chomping, digit_or_end, Ending, first_indicator, folded, further_text, Header, header_of, is_further_text, is_outside, is_spaces, keep, leading_spaces, literal, sign_or_end, starts_with_tab, strip}
unfoldable pub use Rattle.defs_text.specs.BlockScalar.{digit_of, is_empty_line, sign_of}
pub use Rattle.defs_text.specs.Breaks.{ends_line, has_no_break, is_at_line_end, is_before_line_feed, is_blanks_and_comment, is_rest_of_line, put_first, split, split_by}
pub use Rattle.defs_text.specs.Classes.{is_at_end, is_at_gap, is_between, is_document_marker, is_one_of, tab}
unfoldable pub use Rattle.defs_text.specs.Classes.{are_marks, is_alpha, is_anchor_name, is_blank, is_blank_or_end, is_break, is_decimal_digit, is_flow, is_letter, is_nul, is_tag, is_uri}
pub use Rattle.defs_text.specs.Directives.{begins_prefix, Directive, directive_of, number_of, reserved, tag_declaration, version}
pub use Rattle.defs_text.specs.FlowScalar.{begins_with, begun_with, blank, break_further, content, Element, elements, escape_by, escaped_break, escapes, folded_elements, followed, has_document_marker, hexadecimal, is_character_code, line, line_break, Lines, lines_of, lookup, numbered, numeric_escapes, plain_value, put_before, Spelled}
unfoldable pub use Rattle.defs_text.specs.FlowScalar.{double_quoted_element, double_quoted_value, escape, numeric_escape, plain_element, single_quoted_element, single_quoted_value}
pub use Rattle.defs_text.specs.Position.{first_position, Position, position_after, position_past}
pub use Rattle.defs_text.specs.Tags.{after, all_of, begins_with_mark, decoded, is_same, leading, no_character, no_octet, shorthand, Tag, tag_by, tag_of_class, UriFault, verbatim, written_tag, wrong_lead, wrong_trail}
unfoldable pub use Rattle.defs_text.specs.Tags.{uri_character}
pub use Rattle.defs_text.specs.Text.{has_no_nul, is_empty, up_to_nul}
pub use Rattle.defs_token.proofs.Append.{spelled_append}
pub use Rattle.defs_token.specs.Account.{account_past_separation, Before, before_past, blocks_past, collection, collection_column, FlowKind, has_room, innermost_column, is_adjacent, is_closed, is_pair_at, Level, other, sequence}
pub use Rattle.defs_token.specs.Beginning.{Begins, BeginsButForKey, IsPlace, Leads}
pub use Rattle.defs_token.specs.BlockPiece.{block_position, block_read, BlockRead, column_of, first_content, is_past, past_spaces, read_body, read_lines, with_value}
pub use Rattle.defs_token.specs.Column.{blocks_at, innermost, is_deeper, is_in_column, not_ended, opened}
pub use Rattle.defs_token.specs.Cut.{account_past_row, end_token, first_token, IsCut, IsCutOfBeginning, IsRow, start_token, tokens_of, Written}
pub use Rattle.defs_token.specs.FlowEntry.{asked_pair, begun_by, entries_past, Entry, filled, first_entry, fresh, Had, had_after, has_no_pair, is_keyed, is_no_comment, is_renewed, no_pair, Pair, pair_past, renewed, settled, single_pair, takes_pair}
pub use Rattle.defs_token.specs.Following.{are_empty, block_may_end, goes_on_quoted, line_is_done, lines_may_end, may_precede, quoted_may_end, read_may_end}
pub use Rattle.defs_token.specs.Indentation.{awaits_past, begins_entry, begins_line, begins_with_alpha, colon_may_precede, dash_may_precede, follows_plain, has_tab_before_piece, has_tab_within, is_at_break_or_flow, is_indented_by_spaces, last_line, least_column, awaits_in_block, awaits_in_flow}
pub use Rattle.defs_token.specs.Key.{begins_free_line, free, is_near, is_waiting, Line, line_past, line_past_separation, Outside, taken, waits, without_break}
pub use Rattle.defs_token.specs.Lines.{after_first, blanks_before, ends_with_dash, further_lines_fit, further_lines_stand, has_dash_before_flow, has_more, lines_fit, lines_have_no_tab, plain_lines_fit, quoted_lines_fit, without_last}
pub use Rattle.defs_token.specs.Piece.{begins_with_space_or_break, ends_entry, goes_on_with_name, is_name, IsBlockScalar, IsDirective, IsPiece, IsTagLine}
pub use Rattle.defs_token.specs.Plain.{after_blank, begins_flow, begins_plain, ends_at_colon, ends_at_comment, ends_at_line, ends_plain, ends_with_content, goes_on, is_value_indicator, is_whole_plain, may_begin, on_line, past_blank, Stand, stops}
pub use Rattle.defs_token.specs.Row.{HasRow, IsRead, IsRowFrom, IsWritten}
pub use Rattle.defs_token.specs.RowAccount.{Account, account_past, before_by, first_account, have_no_key, is_deep_enough, is_in_flow, least_for, level_of, may_end, may_stand, on_one_line, past_inside, past_outside, past_piece, past_site, seen, Site, site_at, site_in, site_past}
pub use Rattle.defs_token.specs.Separation.{is_blanks, is_separation}
pub use Rattle.defs_token.specs.Step.{Act, act_of, another, blanks_and_comment, block_scalar, comment_of, directive, flow_collection, gives_block_scalar, gives_closing, gives_colon, gives_comma, gives_dash, gives_marker, gives_node, gives_nothing, gives_question, has_break, is_marker, is_on_line, past_blanks_and_comment, past_comment, plain_scalar, Previous, previous_by, quoted_scalar, Row, spelled, Step}
pub use Rattle.defs_token.specs.Token.{alias, anchor, block_end, block_entry, block_mapping_start, block_sequence_start, document_end, document_start, double_quoted, flow_entry, flow_mapping_end, flow_mapping_start, flow_sequence_end, flow_sequence_start, key, plain, scalar, single_quoted, stream_end, stream_start, Style, tag, tag_directive, Tok, Token, value, version_directive}
pub use Rattle.defs_token.specs.Tokens.{begun_inside, begun_outside, Colon, colon_of, content_position, depth_past, ends_at, ends_with_stream, key_end, key_tokens, pair_end, pair_position, past_line_rest, put, shown_position, start_if, stream_position, tokens_at, tokens_at_end, tokens_from, tokens_of_step}
pub use Rattle.model_scanner.proofs.Holds.{both_hold, chained, checked, either, held_of, Holds, read, refused, tried, weakened, went, passes}
pub use Rattle.model_scanner.proofs.QuotedLemmas.{after_gap, after_quote, closed_end, coded, digit_turn, named_code}
pub use Rattle.model_scanner.specs.Anchor.{anchor_name}
pub use Rattle.model_scanner.specs.Blanks.{after_spaces, are_skipped, comment_after, is_line, linebreak, space_step, Spaces, spaces_end, with_found}
unfoldable pub use Rattle.model_scanner.specs.Blanks.{space}
pub use Rattle.model_scanner.specs.Block.{begin_keyless_pair, keyed, opens_pair, paired}
unfoldable pub use Rattle.model_scanner.specs.Block.{begin_key, begin_keyless_mapping, begin_keyless_value, begin_pair, check_after_tab, check_block_entry, check_dash, check_key_space, check_value_space, fetch_block_entry, fetch_key, fetch_value, insert_key, roll_entry}
pub use Rattle.model_scanner.specs.BlockScalar.{Block, block}
unfoldable pub use Rattle.model_scanner.specs.Class.{class_of}
pub use Rattle.model_scanner.specs.Document.{adjacent_here, after_plain, closed_key, context, end_stream, ended_at, next_line, node_start, unled}
unfoldable pub use Rattle.model_scanner.specs.Document.{begin_line, check_after_quoted, check_document_end, fetch_anchor, fetch_block_scalar, fetch_directive, fetch_document_end, fetch_document_marker, fetch_flow_scalar, fetch_plain_scalar, fetch_stream_end, fetch_stream_start, fetch_tag, may_follow_quoted}
pub use Rattle.model_scanner.specs.Fetch.{token_by}
unfoldable pub use Rattle.model_scanner.specs.Fetch.{comes_marker, fetch, fetch_content, fetch_first_column, fetch_here, fetch_indented, fetch_next, fetch_token, is_value}
pub use Rattle.model_scanner.specs.Flow.{allow_key, deepened_flow, end_pair, ended_flow, next_entry}
unfoldable pub use Rattle.model_scanner.specs.Flow.{adjacent_in_flow, begin_flow, decrease_flow_level, end_entry, end_flow, end_flow_pair, fetch_flow_collection_end, fetch_flow_collection_start, fetch_flow_entry, increase_flow_level, pass_indicator}
pub use Rattle.model_scanner.specs.Folding.{Folded, joined, nothing, with_blank, with_break, with_char, with_escaped_break}
pub use Rattle.model_scanner.specs.Indents.{drop_open, end_level, level, Levels, placed, with_levels}
unfoldable pub use Rattle.model_scanner.specs.Indents.{deepen, drop_open_level, in_block, roll_indent, roll_one_col_indent, unroll_indent, unroll_non_block_indents, unrolled, without_open}
pub use Rattle.model_scanner.specs.Keys.{cleared, has_required, is_overdue, is_required, still, top_key, top_needs_block_end}
unfoldable pub use Rattle.model_scanner.specs.Keys.{drop_stale, is_far, must_be_key, remove_implicit_key, save_implicit_key, stale}
pub use Rattle.model_scanner.specs.Kinds.{anchor_token, are_single, block_style, flow_end, flow_level, flow_start, is_literal, quoted_style}
pub use Rattle.model_scanner.specs.Machine.{and_then, at_marker, fail, is_cr_lf, on, past, past_break, Read, run, skip_while, Stop, stop, Turn, turned, walk}
pub use Rattle.model_scanner.specs.Plain.{at_break, at_char, at_gap, can_be_plain, ended, first, Plain, plain_from, PlainState, tabs, turn, turn_in}
unfoldable pub use Rattle.model_scanner.specs.Plain.{at_dash, starts}
pub use Rattle.model_scanner.specs.Quoted.{at_backslash, at_digit, at_escaped_break, at_inside, at_line, at_named, at_quote, breaking, closed, count_of, digits, digits_from, doubled, end_in, escape_of, gap, in_line, inside, is_scalar, Mode, quote_of, quoted_from, QuotedState, unless}
unfoldable pub use Rattle.model_scanner.specs.Quoted.{quoted}
pub use Rattle.model_scanner.specs.Run.{HasTokens, here, IsRefused, Reaches, start, there}
pub use Rattle.model_scanner.specs.Space.{between, comment, Gap, past_line, tab_line, white_end}
unfoldable pub use Rattle.model_scanner.specs.Space.{is_before_indent, skip, skip_spaces, skip_to_next_token, skip_yaml_whitespace, white}
pub use Rattle.model_scanner.specs.State.{go_on, Held, in_flow, Key, lexed, moved, on_held, peek, pop, push, ScannerState, skip_indicator, token, try_held, with_held, with_top, ◌>>=◌}
pub use Rattle.model_scanner.specs.declared.context.Context.{Context}
pub use Rattle.model_scanner.specs.declared.context.SkipTabs.{SkipTabs}
pub use Rattle.model_scanner.specs.declared.context.SkipTabs.TheVariants.{No, Yes}
pub use Rattle.model_scanner.specs.declared.context.Whitespace.{Whitespace}
pub use Rattle.model_scanner.specs.declared.kind.Collection.{Collection}
pub use Rattle.model_scanner.specs.declared.kind.NameKind.{NameKind}
pub use Rattle.model_scanner.specs.declared.kind.Quotes.{Quotes}
pub use Rattle.model_scanner.specs.declared.level.FlowLevel.{FlowLevel}
pub use Rattle.model_scanner.specs.declared.level.FlowLevel.TheVariants.{Keyed, Mapping}
pub use Rattle.model_scanner.specs.declared.level.Indent.{Indent}
pub use Rattle.proof_lexers.proofs.Along.{along_more}
pub use Rattle.proof_lexers.proofs.Blocks.Ends.{style_same}
pub use Rattle.proof_lexers.proofs.Blocks.Margins.{after_break, after_line, after_lines, lines_front}
pub use Rattle.proof_lexers.proofs.Blocks.Positions.{after_chars, after_spell, first_empty, first_header, past_is, space_past, spell_more, feed_past}
pub use Rattle.proof_lexers.proofs.Blocks.Scans.{style_inner}
pub use Rattle.proof_lexers.proofs.Blocks.Written.{AreLines, both, Break, carriage, feed, Fits, Lined, lined, spell, split_spell, texts}
pub use Rattle.proof_lexers.proofs.Bridges.{and_false, digits_of, row, same_alpha, same_blank, same_break, same_code, same_digit, same_escape, same_gap}
pub use Rattle.proof_lexers.proofs.Directives.Lines.{directives_end}
pub use Rattle.proof_lexers.proofs.Ends.{read_as, refused_as}
pub use Rattle.proof_lexers.proofs.Plain.Found.{flow_solid, further_on, no_flow, tab_blank}
pub use Rattle.proof_lexers.proofs.Plain.Scalars.{scans_end}
pub use Rattle.proof_lexers.proofs.Plain.Turns.{in_line_position, line_position, or_false, or_true, same_feed}
pub use Rattle.proof_lexers.proofs.Properties.Names.{names_end}
pub use Rattle.proof_lexers.proofs.Properties.TagReads.{tags_are_read}
pub use Rattle.proof_lexers.proofs.Properties.Tags.{all_leading, alpha_starts, decoded_some, leading_all, same_end, span_cut, tags_end, word}
pub use Rattle.proof_lexers.proofs.Quoted.Bodies.{first_fails, first_is_gap, from_gap, marked_from, not_opened, Opened, quote_feed}
pub use Rattle.proof_lexers.proofs.Quoted.Elements.{has_digits, step}
pub use Rattle.proof_lexers.proofs.Quoted.Lines.{char_goes, moves, named_goes, quote_goes}
pub use Rattle.proof_lexers.proofs.Quoted.Local.{after_own, Local, local, LocalOf}
pub use Rattle.proof_lexers.proofs.Quoted.Turns.{after_escaped, begins_marked, Begun, begun, feed_is_no_marker, in_gap, inside_is_gap, is_marked, marked, off_margin, Ready, scan, shallow, StepOf, steps, white_stands}
pub use Rattle.proof_lexers.proofs.Quoted.Values.{bodies_are_read}
pub use Rattle.proof_lexers.proofs.Separation.Positions.{position_append, position_in_line}
pub use Rattle.proof_lexers.proofs.Separation.Separations.{fills_blank, no_break_hash, no_hash, separations_are_passed}
pub use Rattle.proof_lexers.proofs.Separation.Spaces.{spaces_are_passed}
pub use Rattle.proof_lexers.proofs.Separation.WhiteSpace.{white_space_is_passed}
pub use Rattle.proof_lexers.specs.BlockEnds.{IsBlockRead, whole_block}
pub use Rattle.proof_lexers.specs.BlockScan.{further_position, is_literal_style, is_none, is_shallow, is_single, is_tabbed, read_block, tabbed, without_spaces}
pub use Rattle.proof_lexers.specs.Buffers.{after_element}
pub use Rattle.proof_lexers.specs.DirectiveEnds.{begins_handle, first_break, from_prefix, HasName, IsDeclarationBefore, IsDirectiveRead, IsDirectiveRefusal, IsNoDeclaration, IsNoVersion, IsVersionBefore, said, token_of, whole_directive}
pub use Rattle.proof_lexers.specs.HeaderEnds.{along, has_zero, indicator_of, is_in_line, is_sign, past_indicators, past_one}
pub use Rattle.proof_lexers.specs.NameEnds.{after_name, further, IsNameRead, named, nameless}
pub use Rattle.proof_lexers.specs.PlainEnds.{begins_left, begins_solid, begins_token, begins_white, collection_of, HasTab, is_apart, is_gap, is_indented, is_white, IsPlainRead, IsPlainRefusal, stand_after, whole_plain}
pub use Rattle.proof_lexers.specs.QuotedEnds.{IsBadEscape, IsQuotedRead, number_at}
pub use Rattle.proof_lexers.specs.QuotedScan.{by_line, element_of, ends_before, has_marker, is_some, IsShallow, value_of}
pub use Rattle.proof_lexers.specs.Separations.{after_separation, after_space, are_spaces, begins_separation, begins_white_space, ends_spaces, glued, has, HasNoWhiteSpace, HasPassed, HasSpaces, IsGlued, IsTabRefusal, misses, spaces, tab_left}
pub use Rattle.proof_lexers.specs.TagEnds.{after_tag, IsTagRead, IsTagRefusal, local_goes_on, local_octets, may_follow, no_suffix, suffix_goes_on, suffix_octets, unclosed, verbatim_goes_on, verbatim_octets, whole_tag}
pub use Rattle.proof_lexers.specs.UriEnds.{problem_of}
pub use Rattle.proof_row.proofs.Accounts.{account_step, same_flow}
pub use Rattle.proof_row.proofs.Begins.{block_token, context_of, dash_marks, directive_begins, directive_token, dot_marks, piece_of, separations_end, separations_end_before, texts_begin, Whole}
pub use Rattle.proof_row.proofs.Blocks.{begins_block, block_begins, blocks, has_header}
pub use Rattle.proof_row.proofs.CutRows.{past_by}
pub use Rattle.proof_row.proofs.Cuts.{beginnings_are_cuts, cut_past, cut_past_no_key, IsCutUpTo, rows_are_cuts}
pub use Rattle.proof_row.proofs.Like.{IsLike, LikeEntries, LikeHad, LikeLine, Stepped}
pub use Rattle.proof_row.proofs.Lines.{first_line, line_is, line_more, lines_after, no_lines, of_lines, split_append, up_to_break}
pub use Rattle.proof_row.proofs.Pieces.{clean_up_to_end, no_piece_at_end}
pub use Rattle.proof_row.proofs.Runs.{ends_run, longer, runs, same_head, neither}
pub use Rattle.proof_row.proofs.Separations.{separations}
pub use Rattle.proof_row.proofs.Splits.{More, splits}
pub use Rattle.proof_row.proofs.Texts.{no_nul_after}
pub use Rattle.proof_row.proofs.Written.{not_empty, same_piece, same_written}
pub use Rattle.proof_row.specs.Ends.{alias_name, colon, comma, dash, dashes, directive_line, dots, ends_separation, in_double_quotes, in_single_quotes, Kind, kind_at, kind_by, mapping_closing, mapping_opening, question, sequence_closing, sequence_opening, tag_text}
pub use Rattle.proof_scanner.specs.Arrives.{Arrives, ends_here, IsLineHere, IsNear, site_here, ArrivesAmong, ArrivesWith}
pub use Rattle.proof_scanner.specs.Certain.{FailingPlacesHaveNoRow, TextsWithARowAreNotStuck}
pub use Rattle.proof_scanner.specs.Choices.{chosen, entries_by, entry_by, first_choice, had_by, IsCarriedOn, line_by, MayChoose, outside_key}
pub use Rattle.proof_scanner.specs.Completes.{Completes, Cuts, put_if, put_key, SoFar, tokens_up_to, with_had, with_keys, with_line}
pub use Rattle.proof_scanner.specs.Failing.{begins_document_at, Fails, is_taken, is_taken_line, is_value_here, may_not_stand, MayNotStand, no_block, no_piece, no_plain, no_quoted, site_at_place}
pub use Rattle.proof_scanner.specs.Faults.{bad_escape, dash_in_flow, entry_in_flow, is_shown, IsSpot, IsThere, marked_quote, open_quote, too_deep}
pub use Rattle.proof_scanner.specs.First.{comes_first, FailsFirst, followed_first, is_free_of_tabs, is_full, IsLookedAt, least_here, may_ask, no_piece_first, opens, stands_first}
pub use Rattle.proof_scanner.specs.FirstBlock.{block_first, header_first}
pub use Rattle.proof_scanner.specs.FirstPlain.{HasNoPlainFault, plain_first}
pub use Rattle.proof_scanner.specs.FirstQuoted.{are_indented, closed_first, lines_first, quoted_first}
pub use Rattle.proof_scanner.specs.Here.{IsLive, IsNotRight}
pub use Rattle.proof_scanner.specs.KnownKeys.{GoesThrough, KnowsKey, IsAt}
pub use Rattle.proof_scanner.specs.NoPiece.{goes_over, GoesOn, HasNoQuoted, is_flow_indicator, IsBlockFault, IsFollowed, IsNoHeader, IsNotQuoted, IsPlainFault, IsQuoted, name_mark, NoPiece}
pub use Rattle.proof_scanner.specs.Order.{After, NotBefore}
pub use Rattle.proof_scanner.specs.PiecesRead.{BlockIsRead, comes_plain, DirectiveIsRead, is_directive_token, mark_of, NameIsRead, PiecesAreRead, PlainIsRead, QuotedIsRead, ReadAs, TagIsRead}
pub use Rattle.proof_scanner.specs.Positions.{IsAtEnd, IsPositionIn, IsWhere}
pub use Rattle.proof_scanner.specs.QuotedLines.{AreNotIndented, at_start, begins_further, IsQuotedFault, LineStand, past_element, past_elements, past_escaped, within}
pub use Rattle.proof_scanner.specs.Stands.{IsAdjacent}
pub use Rattle.proof_scanner.specs.StandsInRow.{AreAround, AreCollections, AreEntries, AreLevels, AreNumbered, begins, columns, Fares, FetchKeeps, has_open_level, HasFirst, HasHad, HasHadHere, HasNoTabs, is_at_comment_or_end, is_free, is_fresh, IsEntryOf, IsFreeKey, IsLeading, IsLine, IsOpenHere, IsOpenOutside, IsPairOf, IsReadOn, IsTakenBy, IsTopLevel, over, Stands, TokensAreOfARow, StandsWith, goes, kind_of}
pub use Rattle.proof_scanner.specs.Stuck.{fails, HasNoKey, IsStuck, key_waits, no_key}
pub use Rattle.proof_scanner.specs.Told.{is_told, RefusedTextsAreStuck}
pub use Rattle.yaml_chars.specs.Class.{is_blank_or_breakz, is_breakz}
unfoldable pub use Rattle.yaml_chars.specs.Class.{is_alphanumeric, is_hex}
pub use Rattle.yaml_tokens.specs.declared.problem.Fault.{Fault}
pub use Rattle.yaml_tokens.specs.declared.problem.Fault.TheVariants.{At, OutOfMemory}
pub use Rattle.yaml_tokens.specs.declared.problem.Problem.{Problem}
pub use Rattle.yaml_tokens.specs.declared.problem.Problem.TheVariants.{AnchorIndentation, AnchorName, BlockEntryInFlow, BlockEntryNotAllowed, BlockScalarHeader, BlockScalarIndentation, BlockScalarTab, BlockScalarZero, ColonMisplaced, CommentNotSeparated, ContentAfterDocumentEnd, ContentAfterQuoted, DirectiveEnd, DirectiveName, DirectiveNameEnd, EscapedCode, FlowIndentation, FlowTooDeep, GlobalTagCharacter, HexadecimalDigit, InvalidIndentation, KeyExpected, KeyNotAllowed, KeyWithoutColon, PlainDashInFlow, PlainTab, QuotedDocumentMarker, QuotedEnd, QuotedIndentation, TabAfterColon, TabAfterDash, TabAfterKey, TabAsIndentation, TabInBlockIndentation, TagDirectiveEnd, TagDirectiveHandle, TagEnd, TagStart, UnexpectedAt, UnexpectedBacktick, UnexpectedPercent, UnknownEscape, ValueNotAllowed, VerbatimTagEnd, VersionDot, VersionNumber, VersionTooLong, WhitespaceExpected}
pub use Rattle.model_scanner.specs.declared.kind.NameKind.TheVariants.{Alias, Anchor}
pub use Rattle.proof_lexers.specs.Ends.{EndsAs, reads, refuses}
pub use Rattle.proof_row.proofs.Columns.{further_is_no_break}
pub use Rattle.model_scanner.proofs.PlainLemmas.{break_leads}
pub use Rattle.proof_row.proofs.KeyLines.{KeysBefore, keys_before, line_grows}
