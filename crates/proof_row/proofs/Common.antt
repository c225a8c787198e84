-- The words of other crates and of specs/ that the proofs here use, passed on from one place. Declares nothing.
pub use Rattle.std.proofs.Common.{[], ap, append-nil, append_assoc, arith, Bool, codes, drop, false, if◌then◌else◌, inl, inr, length, List, map, max, nat_lt, None, not, Option, refl, replicate, Some, subst, suc, sym, true, zero, ℕ, ◌&&◌, ◌++◌, ◌+◌, ◌-◌, ◌<◌, ◌==◌, ◌||◌, ◌∙◌, ◌∷◌, ◌≡◌, ◌≢◌, ◌≤◌, ◌⊎◌}
pub use Rattle.std.proofs.lemmas.Bool.{cases_Bool, eqb-true, lt-leb}
pub use Rattle.std.proofs.lemmas.Bool.Decides.{nat_tests}
pub use Rattle.std.proofs.lemmas.List.{append_cancel_right, length-take, take-append-le}
pub use Rattle.defs_text.specs.BlockScalar.{BlockStyle, body, column_by, content_column, deepest_start, Ending, further_text, Header, header_of, is_further_text, is_outside, is_spaces, leading_spaces, rows_of, value_by}
unfoldable pub use Rattle.defs_text.specs.BlockScalar.{digit_of, is_content_line, is_empty_line, row_of, sign_of}
pub use Rattle.defs_text.specs.Breaks.{has_no_break, is_at_line_end, is_before_line_feed, put_first, Split, split, split_by, with_first}
pub use Rattle.defs_text.specs.Classes.{double_quote, is_at_end, is_at_gap, is_document_marker, single_quote}
unfoldable pub use Rattle.defs_text.specs.Classes.{are_marks, is_alpha, is_anchor_name, is_blank, is_blank_or_end, is_break, is_decimal_digit, is_flow, is_letter, is_nul, is_tag, is_uri}
pub use Rattle.defs_text.specs.Directives.{Directive, reserved, tag_declaration, version}
unfoldable pub use Rattle.defs_text.specs.Directives.{directive_of}
pub use Rattle.defs_text.specs.FlowScalar.{begins_with, Element, elements, folded_elements, followed, has_document_marker, plain_value, Spelled}
unfoldable pub use Rattle.defs_text.specs.FlowScalar.{double_quoted_element, double_quoted_value, escape, numeric_escape, plain_element, single_quoted_element, single_quoted_value}
pub use Rattle.defs_text.specs.Position.{first_position, Position, position_after, position_past}
pub use Rattle.defs_text.specs.Tags.{after, after_mark, all_of, begins_with_mark, is_same, leading, named, shorthand, Tag, verbatim, written_tag}
unfoldable pub use Rattle.defs_text.specs.Tags.{uri_character}
pub use Rattle.defs_text.specs.Text.{has_no_nul, is_empty, up_to_nul}
pub use Rattle.defs_token.proofs.Inserted.{is_in_line, piece_with_blocks, with_blocks}
pub use Rattle.defs_token.specs.Account.{Account, account_at_piece, account_past_separation, account_past_token, Before, before_past, blocks_past, collection_column, FlowKind, innermost_column, is_adjacent, is_closed, Level, levels_past}
pub use Rattle.defs_token.specs.Beginning.{Begins, Leads}
pub use Rattle.defs_token.specs.BlockPiece.{block_read, BlockRead, read_body, read_lines, read_split}
pub use Rattle.defs_token.specs.Column.{blocks_at, is_deeper, is_in_column, not_ended, opened}
pub use Rattle.defs_token.specs.Cut.{account_past_row, first_token, IsCut, IsRow, spelled, start_token, tokens_of, Written}
pub use Rattle.defs_token.specs.FlowEntry.{begun_by, entries_past, Entry, entry_past, filled, fresh, Had, is_keyed, is_renewed, Pair, pair_past, settled, single_pair, takes_pair, with_had}
pub use Rattle.defs_token.specs.Key.{begins_free_line, free, is_waiting, Line, line_past, line_past_separation, Outside, taken, waits}
pub use Rattle.defs_token.specs.Piece.{begins_with_key_indicator, begins_with_space_or_break, ends_entry, goes_on_with_name, Holds, IsDoubleQuoted, IsNamed, IsPiece, IsSingleQuoted}
pub use Rattle.defs_token.specs.Plain.{after_blank, begins_flow, begins_plain, ends_with_content, goes_on, inside, is_value_indicator, is_whole_plain, on_line, past, Stand, stops}
pub use Rattle.defs_token.specs.Row.{IsRead, IsRowFrom, IsWritten, OneReading, OneRow}
pub use Rattle.defs_token.specs.RowAccount.{account_past, first_account, have_no_key, is_in_flow, level_of, may_end, may_stand, on_one_line, past_inside, past_outside, past_piece, seen, Site, site_at, site_past}
pub use Rattle.defs_token.specs.Separation.{is_separation, past_separation}
pub use Rattle.defs_token.specs.Step.{Act, act_of, gives_closing, gives_colon, gives_comma, gives_dash, gives_node, gives_question, has_break, is_marker, previous_by, Step}
pub use Rattle.defs_token.specs.Token.{alias, anchor, block_end, block_entry, document_end, document_start, double_quoted, flow_entry, flow_mapping_end, flow_mapping_start, flow_sequence_end, flow_sequence_start, folded, key, literal, plain, scalar, single_quoted, stream_end, tag, tag_directive, Tok, Token, value, version_directive}
pub use Rattle.defs_token.specs.Tokens.{begun_inside, begun_outside, Colon, ends_at, ends_with_stream, key_end, key_tokens, pair_end, pair_position, put, shown_position, stream_position, tokens_from, tokens_of_row, tokens_of_step}
pub use Rattle.proof_row.specs.Ends.{alias_name, anchor_name, block_scalar, BlockScalarsHaveOneEnd, colon, comma, dash, dashes, directive_line, DirectivesHaveOneEnd, dots, DoubleQuotedScalarsHaveOneEnd, ends_separation, in_double_quotes, in_single_quotes, IsSeenAlike, IsWholeSeparation, IsWholeTag, Kind, kind_at, kind_by, kind_of, mapping_closing, mapping_opening, NamesHaveOneEnd, NoPieceIsInASeparation, nothing, PiecesHaveOneEnd, PiecesSeenAlikeHaveOneEnd, plain_scalar, PlainScalarsHaveOneEnd, question, SeparationsBeforePiecesAreOne, SeparationsEndBeforePieces, SeparationsHaveOneEnd, sequence_closing, sequence_opening, SingleQuotedScalarsHaveOneEnd, tag_text, TagsHaveOneEnd, TextsBeginWithOneKind, TextsUpToTheirEndHaveNoNul}
pub use Rattle.proof_row.proofs.Runs.{both, contrary, ends_run, joined, longer, runs, same_head, untrue}
pub use Rattle.proof_row.proofs.Texts.{all_append, all_leading, all_weaker, flows, gaps, leading_after, no_nul_after}
