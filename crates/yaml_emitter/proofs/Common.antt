-- The words of other crates and of specs/ that the proofs here use, and the lemmas on writes, passed on from one place. Declares nothing.
pub use Rattle.std.proofs.Common.{[], add-one, ap, append-nil, append_assoc, arith, bit_or, Bool, codes, drop, encode_utf8, encode_utf8_all, eq-eqb, false, get_or, if◌then◌else◌, inl, inr, int_le, is_some, IsErr, IsOk, IsTrue, length, length-append, List, ltb, map, MatchOption, max, nat_eq, nat_lt, ne_eqb, None, not, OnErr, OnOk, Option, pos, refl, replicate, Result, slice_index, string_bytes, subst, suc, sym, T, take, to_z-of_z, true, true≢false, unsigned_abs, zero, ℕ, ℤ, ◌%◌, ◌&&◌, ◌*◌, ◌++◌, ◌+◌, ◌-◌, ◌/◌, ◌<◌, ◌==◌, ◌^◌, ◌||◌, ◌↔◌, ◌∙◌, ◌∷◌, ◌≡◌, ◌≢◌, ◌≤◌}
pub use Rattle.std.proofs.Math.Seq.{drop-append_seam, drop-cons, get_or-append_seam, take-append_seam, take-length}
pub use Rattle.std.proofs.Output.{has_written_append, has_written_of_eq, writes_in_calls_nil}
pub use Rattle.std.proofs.lemmas.Bool.{and_from, and_parts, cases_order, false_from_ne_true, lt-ltb}
pub use Rattle.std.proofs.lemmas.Bool.Decides.{nat_tests}
pub use Rattle.std.proofs.lemmas.List.{length-drop, nil_from_length, replicate-append-replicate, take-append-drop, take-replicate, take_more}
pub use Rattle.std.proofs.lemmas.List.Elements.{All-from_get_or}
pub use Rattle.std.proofs.lemmas.List.Folds.{list_all-append, list_any-append, list_any_none}
pub use Rattle.std.proofs.lemmas.List.Sums.{prefix_len-le-length, prefix_len_stops, take_while-cons}
pub use Rattle.std.proofs.lemmas.Simd.{zip2_splat}
pub use Rattle.std.proofs.lemmas.Slice.Eq.{bytes_eq-Decides}
pub use Rattle.std.proofs.lemmas.Str.{chars-append, chars-IsAscii, chars-nil, chars_past_char, encode_ascii, encodes-append, encodes-chars, encodes-IsAscii, inside_one, IsCharBoundary-after_ascii, IsCharBoundary-before_ascii, IsCharBoundary-end, IsCharBoundary-from_ascii, IsCharBoundary-from_take, IsUtf8-drop, IsUtf8-from_ascii, IsUtf8-past_char, IsUtf8-string_bytes, IsUtf8-take, len_utf8_bounds, length-encode}
pub use Rattle.std.specs.Char.{is_ascii_lowercase, to_ascii_lowercase}
pub use Rattle.std.specs.Fmt.{decimal, HasWritten, signed_decimal}
pub use Rattle.std.specs.List.{concat, ends_with, FoldsTo, list_all, list_any, prefix_len}
pub use Rattle.std.specs.Str.{chars, IsAscii, IsCharBoundary, IsUtf8, NonePass}
pub use Rattle.std.specs.Str.Iter.{chars_rest}
pub use Rattle.yaml_tree.proofs.ItemsLemmas.{pair_list_of_pairs}
pub use lib.Count.{count_trailing_zeros}
pub use Rattle.defs_tree.proofs.GrammarLaws.{after_one, followed_by-empty, list_all-more, optional_one-after, or-false}
pub use Rattle.defs_text.specs.Text.{is_empty}
unfoldable pub use Rattle.defs_text.specs.Text.{string_chars}
pub use Rattle.defs_tree.specs.Box.{box, hung, hung_lower, if_none, indented, is_block, item_boxes, pair_box, pair_boxes, placed}
pub use Rattle.defs_tree.specs.Escapes.{written_escapes}
unfoldable pub use Rattle.defs_tree.specs.Escapes.{written_character}
pub use Rattle.defs_tree.specs.Lines.{joined, lines_of, onto_first_line}
pub use Rattle.defs_tree.specs.Literal.{begins_as_marker, begins_blank, first_full_line_is_indented, is_line_feed}
unfoldable pub use Rattle.defs_tree.specs.Literal.{is_literal_character, is_literal_text, is_root_literal}
pub use Rattle.defs_tree.specs.Quoting.{begins_with, has_indicator_first, has_outer_space, is_float_word, is_in, reserved_words}
unfoldable pub use Rattle.defs_tree.specs.Quoting.{is_quoted, is_unfit_for_plain}
pub use Rattle.defs_tree.specs.Spelling.{is_scalar, spelling}
pub use Rattle.defs_tree.specs.Tree.{array, hash, item, Items, items_of, no_items, no_pairs, pair, pair_list_of, Pairs, pairs_of, string, Tree}
pub use Rattle.defs_tree.specs.Typing.{is_sign, is_string, typing}
pub use Rattle.defs_tree.specs.Writable.{item_levels, levels, pair_levels}
pub use Rattle.yaml_chars.proofs.MaskLemmas.{all_upto, below as lane_below, both_of, each_upto, either, hit, masked, other, run_ends, run_from, run_stops, run_through, same, same_is, splat_first}
pub use Rattle.yaml_emitter.specs.At.{below, is_low, new_line, spaces, stacked}
pub use Rattle.yaml_emitter.specs.Blocks.{begins_well, begins_with_mark, has_clear_lines, IsFirstCut, IsUnbroken, last_line}
pub use Rattle.yaml_emitter.specs.Deep.{AreRestsValid, GoesOn, rests_text, rests_weight}
pub use Rattle.yaml_emitter.specs.Entries.{after_mark, before_entry, entries_text, mark_text, pair_text, scalar_box}
pub use Rattle.yaml_emitter.specs.Runs.{has_bit, is_break, is_escaped, is_unprintable, IsRun, IsRunCut, stands}
pub use Rattle.yaml_emitter.specs.ValidTree.{ArePairsValid, AreValid, IsValid}
pub use Rattle.yaml_emitter.specs.Words.{begins_plainly, float_names, is_name, is_plain_letter, is_plain_small, is_unfit, is_word}
pub use Rattle.yaml_emitter.proofs.WritingLemmas.{left_after, left_all, left_as, left_none, left_stopped, left_then, left_writes, not_both, stopped_as, stopped_at, stopped_early, stopped_first, stopped_for, stopped_late, stopped_one, writes_as, writes_err, writes_for, writes_late, writes_ok, wrote_none, wrote_one, wrote_then}
pub use Rattle.yaml_emitter.specs.Writing.{IsLeft, Stopped, WritesUnless, Wrote}
pub use Rattle.yaml_tree.specs.Depth.{depth, items_depth, pairs_depth}
pub use Rattle.yaml_tree.specs.View.{hash_tree, items_view, view}
