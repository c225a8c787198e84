-- The words of the general lemmas, passed on from one place. Declares nothing.
pub use Rattle.proof_scanner.proofs.Sound.Arrivals.{by_sides, with_sides, ArrivesBy, stands_by, with_entries, IsToken, deep_for, first_not_right, line_taken, many_around, must_be, not_none, numbered_around, numbered_more, one_around, open_around, some_rest, tokens_before, unbroken, unbroken_around, no_waiting}
pub use Rattle.proof_scanner.proofs.Sound.Completed.{begins_at_start, begins_past, but_for_key_past, completed_at_start, goes_of, goes_past, may_be_no_key}
pub use Rattle.proof_scanner.proofs.Sound.OutOfFlow.{Goes, is_written, Outer, outer_completes, outer_then, tokens_then, keyless_completes}
pub use Rattle.proof_scanner.proofs.Sound.NodeTokens.{among, AreSame, begun_numbered, bit_of, choice_before, choices_around, entry_past_node, fewer, first_among, had_as_it_was, key_longer, keys_along, keys_first, keys_own, levels_by, line_after_node, node_in_entry, node_outer_tokens, node_tokens, past_step, same_levels, saved, with_begun, with_no_key}
pub use Rattle.proof_scanner.proofs.Sound.StreamEnds.{all_levels, ends_of, none_chosen, none_put, same_flow, shorter, stream_ended, none_completes, ended_outside, all_ended, entries_no_key}
pub use Rattle.proof_scanner.proofs.Sound.LastLines.{blank_more, break_append, column_after, last_first, last_whole, no_comment_in_last}
pub use Rattle.proof_scanner.proofs.Sound.Blanks.{found_in, indicator_end, indicator_passed, is_clear, line_rest_cut, line_rest_fills, line_rest_in_line, none_skipped, past_it, past_rest, past_rest_is_clear, rest_read, rest_skipped, same_in_line}
pub use Rattle.proof_scanner.proofs.Cut.Stoods.{adjacent_other, IsDeep, less_or, same_number, adjacent_quoted, before_both, adjacent_filled}
pub use Rattle.proof_scanner.proofs.Cut.Positions.{after_piece, index_after, not_before_after, not_before_same, not_before_then, weaker, no_break_on_line, row_position, spelled_before}
pub use Rattle.proof_scanner.proofs.Cut.Documents.{saved_is, saved_keys, three_past, whole_text, unrolled_in_flow, unrolled_outside, past_indicator}
pub use Rattle.proof_scanner.proofs.Cut.Pieces.Separations.{gap_is_separation, separation_append, white_is_no_hash}
