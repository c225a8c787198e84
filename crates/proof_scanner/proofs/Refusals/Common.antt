-- The lemmas of the other parts that the proofs on refusals share, passed on from one place. Declares nothing.
pub use Rattle.proof_scanner.proofs.Cut.Dispatch.{content_holds, gap_here, token_holds, value_is, begins_here, goes_on_here, no_end}
pub use Rattle.proof_scanner.proofs.Cut.Documents.{whole_text, saved_is, saved_keys, key_removed}
pub use Rattle.proof_scanner.proofs.Cut.Stoods.{IsDeep, less_or}
pub use Rattle.proof_scanner.proofs.Cut.Passes.{Spaced, spaced, spaces_skipped}
pub use Rattle.proof_scanner.proofs.Cut.Pieces.Blocks.{end_no_text}
pub use Rattle.proof_scanner.proofs.Cut.Pieces.Quoted.{some_chars}
pub use Rattle.proof_scanner.proofs.Cut.Pieces.Separations.{gap_is_separation, separation_append}
pub use Rattle.proof_scanner.proofs.Cut.Positions.{index_after, not_before_after}
pub use Rattle.proof_scanner.proofs.Known.Made.{Made, inside, made, outside, still_there, waited, same_of, like_past, begun, kept, waits_past}
pub use Rattle.proof_scanner.proofs.Known.Rows.{some_row, at_end, ends_before, piece_ends, step_here, Walked, clean_after, row_walks, walk}
pub use Rattle.proof_scanner.proofs.Known.Ways.{leads_on, GivesUp, GoesOn, Keeps, KeepsOn, LeadsBy, Meet, Same, Way, With, first_on, gives_up_like, like_sym, meet, same_place, second_on, strict_way, strictly, way_but_for_key, way_of}
pub use Rattle.proof_scanner.proofs.Refusals.Places.{knowing, known_turn, Faults, IsRowless, IsWhy, LiesDeep, Told, account_by, awaits_by, blocks_by, either, fault, fault_is, followed_stuck, goes, in_flow_is, in_turn, kind, least_by, looked_at, mapped, none_begins, place, read, rowless_told, solid_past, spaces_told, stuck, stuck_by, tried, with_row, stuck_at}
pub use Rattle.proof_scanner.proofs.Sound.Arrivals.{not_none, with_entries}
pub use Rattle.proof_scanner.proofs.Sound.Completed.{begins_at_start, begins_past}
pub use Rattle.proof_scanner.proofs.Sound.Stales.{cut_position, stands_cut, no_entries, one_key}
pub use Rattle.proof_scanner.proofs.Sound.Fetches.{Fetched, content_kept, fetch_keeps, fetched}
pub use Rattle.proof_scanner.proofs.Sound.LastLines.{tab_among, break_append, last_first, last_more, last_whole}
pub use Rattle.proof_scanner.proofs.Sound.Passed.{Exact, least_is, same_has_break, skip_stays}
pub use Rattle.proof_scanner.proofs.Sound.PlainKeeps.{same_innermost, solid_text, no_comment}
pub use Rattle.proof_scanner.proofs.Sound.QuotedEnds.{Checked, after_blanks, blanks_alone, not_at_end, quoted_checked, same_line, unglued, always}
pub use Rattle.proof_scanner.proofs.Sound.QuotedKeeps.{QuotedAs, in_line, piece_of, quoted_as}
pub use Rattle.proof_scanner.proofs.Sound.Runs.{first_fetch, reached, stream_started}
pub use Rattle.proof_scanner.proofs.Sound.Sound.{tokens_are_of_a_row}
pub use Rattle.proof_scanner.proofs.Sound.StreamEnds.{same_flow, first_stays}
pub use Rattle.proof_scanner.proofs.Sound.ToToken.{is_in, passed_stands}
pub use Rattle.proof_scanner.proofs.Sound.WhiteSpaces.{no_tab_in, past_white, past_white_space, white_cut, white_exactly, white_first, white_of, white_or_missed}
pub use Rattle.proof_scanner.proofs.Sound.Rolled.{AreClosed, without_is}
pub use Rattle.proof_scanner.proofs.Sound.Reads.{held_exactly}
pub use Rattle.proof_row.specs.Ends.{anchor_name, block_scalar, nothing, plain_scalar}
unfoldable pub use Rattle.yaml_chars.specs.Class.{is_alpha, is_break}
pub use Rattle.proof_scanner.specs.NoPiece.{quote_of}
pub use Rattle.proof_row.proofs.Written.{At}
pub use Rattle.model_scanner.specs.State.{after}
