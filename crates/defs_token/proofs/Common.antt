-- The words of other crates and of specs/ that the proofs here use, passed on from one place. Declares nothing.
pub use Rattle.std.proofs.Common.{[], ap, Bool, drop, false, if◌then◌else◌, inl, inr, length, List, None, not, Option, pred, refl, replicate, Some, subst, sym, take, true, ℕ, ◌&&◌, ◌++◌, ◌==◌, ◌||◌, ◌∙◌, ◌∷◌, ◌≡◌}
pub use Rattle.std.specs.Prelude.{codes, ⊤}
pub use Rattle.defs_text.specs.BlockScalar.{BlockStyle}
unfoldable pub use Rattle.defs_text.specs.BlockScalar.{digit_of, is_content_line, is_empty_line, row_of, sign_of}
pub use Rattle.defs_text.specs.Breaks.{has_no_break, is_at_line_end}
pub use Rattle.defs_text.specs.Classes.{double_quote, is_at_gap, single_quote}
unfoldable pub use Rattle.defs_text.specs.Classes.{are_marks, is_alpha, is_anchor_name, is_blank, is_blank_or_end, is_break, is_decimal_digit, is_flow, is_letter, is_nul, is_tag, is_uri}
pub use Rattle.defs_text.specs.FlowScalar.{begins_with}
unfoldable pub use Rattle.defs_text.specs.FlowScalar.{begins_with_marker, double_quoted_element, double_quoted_value, escape, is_character_code, numeric_escape, plain_element, plain_value, single_quoted_element, single_quoted_value}
pub use Rattle.defs_text.specs.Position.{Position, position_after}
pub use Rattle.defs_text.specs.Tags.{all_of, Tag, written_tag}
unfoldable pub use Rattle.defs_text.specs.Tags.{escaped_character, is_trail, lead_of, octet_at, uri_character}
pub use Rattle.defs_text.specs.Text.{up_to_nul}
pub use Rattle.defs_token.specs.Account.{Account, before_past, collection, collection_column, first_account, FlowKind, has_open_pair, has_room, is_adjacent, is_closed, is_in_flow, Level, levels_past, mapping, other, quoted, sequence, settled, takes_pair}
pub use Rattle.defs_token.specs.BlockPiece.{block_position, block_read, BlockRead}
pub use Rattle.defs_token.specs.Cut.{account_at, account_past, account_past_row, end_token, first_token, IsCut, IsCutOfBeginning, IsRow, IsWritten, spelled, start_token, tokens_of, Written}
pub use Rattle.defs_token.specs.Piece.{begins_node, begins_pair, begins_with_key_indicator, begins_with_space_or_break, ends_entry, goes_on_with_name, Holds, is_name, IsBlockScalar, IsDoubleQuoted, IsPiece, IsSingleQuoted}
pub use Rattle.defs_token.specs.Plain.{after_blank, begins_flow, begins_plain, ends_plain, goes_on, inside, is_value_indicator, is_whole_plain, on_line, past, Stand, stops}
pub use Rattle.defs_token.specs.Row.{HasRow, IsRead}
pub use Rattle.defs_token.specs.Separation.{is_separation, past_separation}
pub use Rattle.defs_token.specs.Step.{Row, Step}
pub use Rattle.defs_token.specs.Token.{alias, anchor, block_end, block_entry, block_mapping_start, block_sequence_start, document_end, document_start, double_quoted, flow_entry, flow_mapping_end, flow_mapping_start, flow_sequence_end, flow_sequence_start, folded, key, literal, plain, scalar, single_quoted, stream_end, stream_start, tag, tag_directive, Tok, Token, value, version_directive}
