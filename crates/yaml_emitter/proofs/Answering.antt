-- What answers and invariants take from the lemmas here and from the words that these use, passed on from one place. Declares nothing.
pub use Rattle.yaml_emitter.proofs.Common.{[], ap, append_assoc, arith, array, begins_as_marker, begins_plainly, begins_well, chars, chars-nil, chars_rest, codes, depth, drop, encode_utf8, false, get_or, has_bit, hash, is_ascii_lowercase, is_block, is_low, is_name, is_string, IsLeft, IsUtf8, IsUtf8-past_char, items_depth, items_of, items_view, left_after, left_all, left_as, left_stopped, left_writes, length, list_any, mark_text, max, new_line, nil_from_length, not, pairs_depth, pairs_of, prefix_len, refl, rests_text, stacked, stands, stopped_as, stopped_at, stopped_early, stopped_first, stopped_for, stopped_late, subst, sym, to_z-of_z, true, typing, view, writes_as, writes_err, writes_for, writes_late, writes_ok, wrote_none, wrote_then, ◌&&◌, ◌*◌, ◌++◌, ◌+◌, ◌-◌, ◌==◌, ◌||◌, ◌∙◌, ◌∷◌, ◌≡◌}
unfoldable pub use Rattle.yaml_emitter.proofs.Common.{is_unfit_for_plain}
pub use Rattle.yaml_emitter.proofs.ByteLemmas.{bytes_tested, escaped_bits, escaped_set, low_chars, unfit_bits, unfit_set}
pub use Rattle.yaml_emitter.proofs.NodeLemmas.{block_writes, document_text, flat_after, flat_box, goes_err, goes_late, goes_ok, goes_refused, goes_written, item_entries, no_entries, pair_entries, parts_then, root_block}
pub use Rattle.yaml_emitter.proofs.EndLemmas.{last_is}
pub use Rattle.yaml_emitter.proofs.EntryLemmas.{at_least_one, by_empty, items_text, next_item, next_pair, pairs_text, two_levels}
pub use Rattle.yaml_emitter.proofs.LineLemmas.{blanks, deep_blanks, deep_line, line_boundary, line_of, low_blanks, of_level, twice}
pub use Rattle.yaml_emitter.proofs.ListLemmas.{all_left, AreLeft, Decide, entry_stopped, first_within, none_decide, none_left, own_no_higher, rest_decides, rest_left}
pub use Rattle.yaml_emitter.proofs.LiteralLemmas.{after_mark, break_boundary, break_passed, feed_by, first_below, first_cut, first_line, last_line_is, line_last, no_mark, only_line, printable_boundary, rest_printable, unbroken}
pub use Rattle.yaml_emitter.proofs.NumberLemmas.{last_digit, negative, nonnegative}
pub use Rattle.yaml_emitter.proofs.RunLemmas.{cut_written, only_run, other_character, run_cut, stands_boundary}
pub use Rattle.yaml_emitter.proofs.ValidLemmas.{flat_valid, in_any, nodes, nodes_in_pairs, on_err, valid_hash}
pub use Rattle.yaml_emitter.proofs.WordLemmas.{empty_text, plain_quoted, small_letter, wide_fits, word_of_bytes}
