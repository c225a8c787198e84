-- What answers and invariants take from the lemmas here and from the words that these use, passed on from one place. Declares nothing.
pub use Rattle.yaml_json.proofs.Common.{all_left, ap, append-nil, append_assoc, AreLeft, arith, common_steps, decimal, decimal_digit, depth, drop, drop-set, drop_all, entry_stopped, false, first_within, is_low, IsAscii, IsSoundAtRoot, IsUtf8, IsUtf8-from_ascii, items_depth, items_of, key, left_after, left_all, left_as, left_in, left_none, left_stopped, left_writes, length, length-decimal-le, length-set, nest_end, none_decide, none_left, own_no_higher, pairs_depth, pairs_of, reads_number, refl, rest_left, set, set_comm, signed_decimal, stopped_at, stopped_early, stopped_first, stopped_for, stopped_late, subst, sym, to_z-of_z, true, view, writes_as, writes_err, writes_for, writes_late, writes_ok, wrote_then, ◌%◌, ◌*◌, ◌++◌, ◌+◌, ◌-◌, ◌∙◌, ◌∷◌, ◌≡◌, ◌≤◌}
unfoldable pub use Rattle.yaml_json.proofs.Common.{string_chars}
pub use Rattle.yaml_json.proofs.ReadCommon.{[], carriage_return, chars, false_word, fraction, get_or, is_some, IsAsciiFirst, IsFirst, IsGap, line_feed, null_word, ok_of, option_map, option_to_list, rules, space, tab, TabsBeginLines, true_word, vec_len, was_ok}
pub use Rattle.yaml_json.proofs.Collections.{array_begun, array_empty, item_last, item_put, member_last, member_put, object_begun, object_empty, pair_added}
pub use Rattle.yaml_json.proofs.DigitLemmas.{end_text, has_digits, HasDigits, minus_first, pairs_below, signed_ascii, two_digits, two_more}
pub use Rattle.yaml_json.proofs.GivenLemmas.{flat_given, flat_text_is, given_hash, has_json}
pub use Rattle.yaml_json.proofs.LeftLemmas.{Goes, goes_in, goes_on, item_entries, item_next, low_brackets, member_entries, member_next, members_end, no_member_left, part_wide, put_in_brackets, stopped_before, stopped_in, trees, waiting, weight, when_err, wide_within}
pub use Rattle.yaml_json.proofs.LevelLemmas.{finished, Holds, level_left, margin_stops, next_end, opened, opened_smaller, opening_stopped, opens_more, part_next, place, resumed, resumed_smaller, root_next, stands_in}
pub use Rattle.yaml_json.proofs.Longer.{gap_nearer, key_nearer, value_nearer}
pub use Rattle.yaml_json.proofs.NumberLemmas.{no_real, real_is}
pub use Rattle.yaml_json.proofs.Places.{ended_on, has_scalar, last_put, open_on, opened_in, outermost}
pub use Rattle.yaml_json.proofs.ReadNumberLemmas.{digits_read, digits_whole, exponent_from, number_cut, number_value, rest_of, some_of}
pub use Rattle.yaml_json.proofs.SearchLemmas.{has_parts_met, left_sound, meets, no_more_members, no_step, other_step, Passes, passes_more, Searches, searches_in, smaller_in, value_next}
pub use Rattle.yaml_json.proofs.ShallowLemmas.{next_item, no_items_within, no_pairs_within, not_shallow, nothing_within, only_within, scalar_within, shallow}
pub use Rattle.yaml_json.proofs.StringLemmas.{ended, escaped_string, gone_on, plain_string, pushed, short_ascii, short_read}
pub use Rattle.yaml_json.proofs.TextLemmas.{behind_word, blank_taken, cut_first, first_is, json_text, nothing_left, skipped, took, word_is}
pub use Rattle.yaml_tree.proofs.TextLemmas.{kept_chars}
