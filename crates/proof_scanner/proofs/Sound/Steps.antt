-- The lemmas on steps that the proofs of the functions of tokens share, passed on from one place. Declares nothing.
pub use Rattle.proof_scanner.proofs.Sound.Common.{IsToken, after_piece, all_levels, among, by_sides, with_sides, ArrivesBy, break_append, deep_for, ends_of, fewer, first_among, first_not_right, found_in, gap_is_separation, goes_of, had_as_it_was, indicator_end, indicator_passed, is_clear, is_written, IsDeep, key_longer, keys_along, keys_first, keys_own, last_whole, less_or, line_rest_cut, line_rest_fills, line_rest_in_line, line_taken, many_around, no_waiting, none_skipped, not_before_after, not_before_same, not_before_then, numbered_around, numbered_more, Outer, outer_completes, outer_then, past_it, past_indicator, past_rest, past_rest_is_clear, past_step, rest_read, rest_skipped, same_flow, same_in_line, saved, saved_is, saved_keys, separation_append, shorter, some_rest, three_past, tokens_before, tokens_then, unbroken, unrolled_in_flow, weaker, white_is_no_hash, with_entries, blank_more, column_after, completed_at_start, index_after, last_first, no_comment_in_last, stands_by, stream_ended, unrolled_outside, whole_text, none_completes, ended_outside, all_ended, keyless_completes, same_number, no_break_on_line, adjacent_quoted, before_both, adjacent_filled}
pub use Rattle.proof_scanner.proofs.Sound.Reads.{adjacent_kept, exactly, held_exactly, Onward, quiet_before, Reads, reads_before_none, reads_in_line, stands_so}
pub use Rattle.proof_scanner.proofs.Sound.OutsidePieces.{begun_after, ends_outside, key_gone, line_free, read_outside, with_start}
pub use Rattle.proof_scanner.proofs.Sound.InFlow.{goes_inside, keyless_tokens, low_enough, numbered_then, steps_in_flow}
pub use Rattle.proof_scanner.proofs.Sound.ReadNodes.{allowed_past, IsRead, node_read, site_of, site_then}
pub use Rattle.proof_scanner.proofs.Sound.Rolled.{rolls_to, RollsTo, some_levels, top_closed, AreClosed, without_is, OpensLevel, opens_level, all_close, deeper_is}
pub use Rattle.proof_scanner.proofs.Known.Steps.{begins_key, is_of_node, keyless, knows_saved, known_at_start, known_past}
pub use Rattle.proof_scanner.proofs.Sound.Passed.{Exact, exact, least_is, same_has_break, free_line_append, goes_on, live_before_it, may_before, read_on_append, renewed_alike, skip_stays}
pub use Rattle.proof_scanner.proofs.Sound.QuotedEnds.{at_end_of, Checked, ends_in_line, is_done, on_one_line, quoted_checked, blanks_alone, always}
pub use Rattle.proof_scanner.proofs.Cut.Documents.{entry_from, key_removed, unroll_keeps}
pub use Rattle.proof_scanner.proofs.Cut.Dispatch.{gap_here, value_is, content_holds, token_holds, begins_here, goes_on_here, no_end}
pub use Rattle.proof_scanner.proofs.Cut.Pieces.Plains.{begins_as_read, same_flow_start}
pub use Rattle.proof_scanner.proofs.Sound.Skips.{Cleared, IsAt, IsIn, IsLeast, Spaced, skip_clears}
pub use Rattle.proof_scanner.proofs.Sound.Stales.{Nearer, keys_only, stale_stands, arrives_cut, cut_position}
