-- The words of other crates and of specs/ that the proofs here use, passed on from one place. Declares nothing.
pub use Rattle.std.proofs.Common.{[], ap, append-nil, append_assoc, arith, Bool, codes, drop, Err, false, if◌then◌else◌, inl, inr, length, length-append, List, max, nat_le, nat_lt, None, not, Ok, Option, refl, replicate, Result, slice_index, Some, subst, suc, sym, take, true, zero, ℕ, ◌&&◌, ◌*◌, ◌++◌, ◌+◌, ◌-◌, ◌==◌, ◌||◌, ◌∙◌, ◌∷◌, ◌≡◌, ◌≤◌}
pub use Rattle.std.proofs.Math.Bool.{and-false, and_assoc, or-false, or-true}
pub use Rattle.std.proofs.lemmas.Bool.{and_parts, both_ways, cases_Bool, eq-eqb, eqb-true, le-leb, le-ltb, leb-true, lt-ltb, ne_eqb, not-false, not-true, or_cases, or_parts}
pub use Rattle.std.proofs.lemmas.Bool.Decides.{nat_tests}
pub use Rattle.std.proofs.lemmas.List.{length-take, take-append-drop, take-append-le, take_at}
pub use Rattle.std.specs.Char.{digit_value}
pub use Rattle.std.specs.List.{list_all}
pub use Rattle.defs_text.specs.BlockScalar.{after_style, all_lines, between_lines, BlockStyle, Body, body, breaks, clip, column_by, content_row, deepest_start, empty_after, empty_row, folded, further_text, has_content, header_of, input_ends, is_further_text, is_outside, is_spaces, keep, leading_spaces, least_column, literal, nothing_before_end, nothing_before_text, put_row, Row, rows_of, starts_blank, starts_with_tab, strip, text_after, text_of, unbroken, value_before_end, value_before_text, with_content}
unfoldable pub use Rattle.defs_text.specs.BlockScalar.{digit_of, is_content_line, is_empty_line, row_of, sign_of}
pub use Rattle.defs_text.specs.Breaks.{has_no_break, is_before_line_feed, is_blanks_and_comment, is_rest_of_line, Split, split, with_empty_line}
pub use Rattle.defs_text.specs.Classes.{is_at_end, is_at_gap, is_between, is_document_marker, line_feed, tab}
unfoldable pub use Rattle.defs_text.specs.Classes.{are_marks, is_anchor_name, is_blank_or_end, is_decimal_digit, is_letter, is_nul}
pub use Rattle.defs_text.specs.Directives.{begins_prefix, decimal_value, declaration_by, Directive, handle_and_rest, number_of, reserved, tag_declaration, version_of}
unfoldable pub use Rattle.defs_text.specs.Directives.{directive_of}
pub use Rattle.defs_text.specs.FlowScalar.{before_break, begins_with, begun_with, blank, break_further, content, Element, elements, escape_by, escaped_break, escapes, folded_after, folded_break, followed, has_document_marker, hexadecimal, last_line, line, line_break, lines_of, lookup, numbered, numeric_escapes, put_before, Spelled, trimmed, trimmed_after, without_trailing_blanks}
unfoldable pub use Rattle.defs_text.specs.FlowScalar.{begins_with_marker, double_quoted_element, double_quoted_value, escape, is_character_code, numeric_escape, plain_element, plain_value, single_quoted_element, single_quoted_value}
pub use Rattle.defs_text.specs.Position.{Position, position_after, position_past}
pub use Rattle.defs_text.specs.Tags.{after, all_of, begins_with_mark, code_followed, decoded, decoded_after, is_handle, is_marked_name, is_same, Lead, leading, led_by, no_character, put_code, tag_of_class, trail_by, trails, UriFault, written_tag}
unfoldable pub use Rattle.defs_text.specs.Tags.{escaped_character, is_trail, lead_of, octet_at, uri_character}
pub use Rattle.defs_text.specs.Text.{has_no_nul, is_empty}
pub use Rattle.defs_token.specs.BlockPiece.{block_position, block_read, BlockRead, first_content, past_spaces, position_or, read_body, read_lines, read_split}
pub use Rattle.defs_token.specs.Plain.{after_blank, begins_flow, ends_at_colon, ends_at_comment, ends_at_line, ends_plain, ends_with_content, goes_on, is_deeper, on_line, Stand, stops}
pub use Rattle.defs_token.specs.Separation.{is_blanks, is_separation}
pub use Rattle.model_scanner.proofs.QuotedLemmas.{after_gap, after_quote, closed_end, coded, coded_fails, digit_fails, digit_turn, named_char, named_code, named_unknown}
pub use Rattle.model_scanner.specs.Blanks.{blanks, is_line, linebreak, space_from}
unfoldable pub use Rattle.model_scanner.specs.Blanks.{space}
pub use Rattle.model_scanner.specs.BlockScalar.{after_header, Block, BlockState, Column, First, first_indent, Header, indent_from, is_open, Lines, lines_from, Margin, margin, with_indicators}
unfoldable pub use Rattle.model_scanner.specs.BlockScalar.{between, block, chomping, empty_text, header, header_break, header_end, increment, indicators, tail}
pub use Rattle.model_scanner.specs.Directive.{after_major, after_value, Digits, prefix_after, tag, unknown, value, version, with_minor, with_prefix}
unfoldable pub use Rattle.model_scanner.specs.Directive.{directive, directive_break, kind, line_end, name, number, tag_value, version_value}
pub use Rattle.model_scanner.specs.Folding.{Folded, joined, nothing, with_blank, with_break, with_char, with_escaped_break}
pub use Rattle.model_scanner.specs.Machine.{and_then, is_cr_lf, past, past_break, Read, run, skip_while, Stop, take_while}
unfoldable pub use Rattle.model_scanner.specs.Machine.{at_marker}
pub use Rattle.model_scanner.specs.Plain.{at_break, Plain, plain_from, tabs}
unfoldable pub use Rattle.model_scanner.specs.Plain.{at_dash, at_plain, can_be_plain, is_shallow, plain}
pub use Rattle.model_scanner.specs.Quoted.{count_of, digits_from, first, gap, inside, Mode, quote_of, quoted_from, QuotedState}
unfoldable pub use Rattle.model_scanner.specs.Quoted.{escape_of, quoted, refused}
pub use Rattle.model_scanner.specs.Space.{Gap, tab_line, white_end}
unfoldable pub use Rattle.model_scanner.specs.Space.{is_before_indent, skip, white}
pub use Rattle.model_scanner.specs.State.{Held, in_flow, moved, ScannerState}
pub use Rattle.model_scanner.specs.Tag.{after_name, handle_end, local, read_tag, some_suffix, tag_end, verbatim_end}
unfoldable pub use Rattle.model_scanner.specs.Tag.{ends_tag, handle, named, prefix, shorthand, verbatim}
pub use Rattle.model_scanner.specs.Uri.{at_octet, at_trail, high, lead, Octet, octet_from, trail, trails_from, uri_from, UriState}
pub use Rattle.model_scanner.specs.declared.context.Context.{Context}
pub use Rattle.model_scanner.specs.declared.context.SkipTabs.TheVariants.{Yes}
pub use Rattle.model_scanner.specs.declared.context.Whitespace.{Whitespace}
pub use Rattle.model_scanner.specs.declared.kind.Escape.{Escape}
pub use Rattle.model_scanner.specs.declared.kind.Escape.TheVariants.{Char, Code, Unknown}
pub use Rattle.proof_lexers.specs.BlockLaws.{BlockPiecesAreRead, BlockScansEndAsTheirTextSays, FirstLinesGiveTheColumn, HeadersEndAsTheirLineSays}
pub use Rattle.proof_lexers.specs.BlockScan.{digit_by, further_position, is_literal_style, is_single, is_some, is_tabbed, IsRead, read_block, without_spaces}
pub use Rattle.proof_lexers.specs.Buffers.{after_element, after_elements}
pub use Rattle.proof_lexers.specs.DirectiveEnds.{after_declaration, after_version, by_comment, by_declaration, by_name, by_octets, by_version, first_break, IsDirectiveRefusal, IsNoDeclaration, IsNoVersion, long_major, long_minor, next_line, no_major, no_minor, no_name, no_point, no_prefix, open_name, token_of}
pub use Rattle.proof_lexers.specs.Ends.{EndsAs, reads, refuses}
pub use Rattle.proof_lexers.specs.HeaderEnds.{along, chomping_of, comment, digit_or_zero, ends_line, has_zero, indicator_of, indicators_of, is_in_line, is_sign, IsHeaderRead, IsHeaderRefusal, no_header, past_indicators, read_header, tabbed, whole_header, zero_digit}
pub use Rattle.proof_lexers.specs.NameEnds.{further, IsNameRead, IsNameRefusal, nameless}
pub use Rattle.proof_lexers.specs.PlainEnds.{begins_left, begins_token, begins_white, by_column, by_dash, by_tab, collection_of, goes_over, has_break, HasTab, is_apart, is_gap, is_indented, is_white, IsPlainRead, IsPlainRefusal, stand_after, whole_plain}
pub use Rattle.proof_lexers.specs.QuotedEnds.{by_end, by_escape, by_marker, HasElements, IsBadEscape, IsQuotedRead, IsQuotedRefusal, no_digit, number_at}
pub use Rattle.proof_lexers.specs.QuotedLaws.{QuotedBodiesAreRead, QuotedScansEndAsTheirTextSays}
pub use Rattle.proof_lexers.specs.QuotedScan.{by_line, element_of, ends_before, has_marker, IsShallow, read, shallow, value_of}
pub use Rattle.proof_lexers.specs.ScalarLaws.{DirectivesAreRead, DirectivesEndAsTheirTextSays, EachSeparationIsPassed, NamesAreRead, NamesEndAsTheirTextSays, PlainScalarsAreRead, PlainScansEndAsTheirTextSays, SeparationsArePassed, SpacesArePassed, TagsAreRead, TagsEndAsTheirTextSays, UrisAreRead, WhiteSpaceIsPassed}
pub use Rattle.proof_lexers.specs.Separations.{after_separation, are_spaces, begins_separation, begins_white_space, ends_spaces, has, HasPassed, is_left, IsAfter, misses, spaces, tab_left}
pub use Rattle.proof_lexers.specs.TagEnds.{after_tag, at_start, IsTagFault, IsTagRead, IsTagRefusal, local_goes_on, local_octets, may_follow, no_suffix, suffix_goes_on, suffix_octets, verbatim_goes_on, verbatim_octets, whole_tag}
pub use Rattle.proof_lexers.specs.UriEnds.{after_class, problem_of}
pub use Rattle.proof_row.proofs.Columns.{column_same, further_is_no_break, IsBefore}
pub use Rattle.proof_row.proofs.Lines.{first_line, up_to_break}
pub use Rattle.yaml_chars.specs.Class.{is_blank_or_breakz}
unfoldable pub use Rattle.yaml_chars.specs.Class.{is_alpha, is_alphanumeric, is_anchor, is_blank, is_break, is_flow, is_hex, is_tag, is_uri, is_uri_mark}
pub use Rattle.yaml_tokens.specs.declared.problem.Fault.{Fault}
pub use Rattle.yaml_tokens.specs.declared.problem.Fault.TheVariants.{At}
pub use Rattle.yaml_tokens.specs.declared.problem.Problem.{Problem}
pub use Rattle.yaml_tokens.specs.declared.problem.Problem.TheVariants.{BlockScalarTab, BlockScalarZero, CommentNotSeparated, DirectiveEnd, DirectiveName, DirectiveNameEnd, EscapedCode, FlowIndentation, GlobalTagCharacter, HexadecimalDigit, PlainDashInFlow, PlainTab, QuotedDocumentMarker, QuotedEnd, QuotedIndentation, TabAsIndentation, TabInBlockIndentation, TagDirectiveEnd, TagDirectiveHandle, TagEnd, TagLeadingOctet, TagOctet, TagStart, UnknownEscape, VersionDot, VersionNumber, VersionTooLong, WhitespaceExpected}
pub use Rattle.proof_lexers.proofs.Bridges.{and_false, both, cases_Option, digits_of, or_false, same_alpha, same_blank, same_break, same_code, same_digit, same_escape, same_flow, same_gap, same_marker, same_tag, same_uri}
pub use Rattle.proof_lexers.proofs.Classes.{all_leading, before_end, begins_in, ends_after, leading_all, leading_none, none_further, one_further, same_place, skipped, span_cut, taken}
