-- The words of other crates and of specs/ that the proofs here use, passed on from one place. Declares nothing.
pub use Rattle.std.proofs.Common.{[], ap, append-nil, append_assoc, ap₂, arith, Bool, cond, drop, eqb, false, Fits, get_or, get_or-drop, get_or-take, inl, inr, length, length-append, length-drop, length-set, List, ltb, map, mod-eq_of_lt, None, not, not-suc-le-zero, Option, refl, replicate, rules, set, slice_index, Some, subst, suc, sym, T, take, true, w8, zero, ℕ, ◌%◌, ◌&&◌, ◌++◌, ◌+◌, ◌-◌, ◌/◌, ◌<◌, ◌==◌, ◌^◌, ◌||◌, ◌∙◌, ◌∷◌, ◌≡◌, ◌≢◌, ◌≤◌, ◌⊎◌}
pub use Rattle.std.proofs.Math.Seq.{take-length}
pub use Rattle.std.proofs.lemmas.Bool.{and_parts, cases_lt, cases_order, eq-eqb, ne_eqb}
pub use Rattle.std.proofs.lemmas.Bool.Decides.{nat_tests}
pub use Rattle.std.proofs.lemmas.Grind.{common_steps, elements}
pub use Rattle.std.proofs.lemmas.List.{drop-append-le, drop_all, drop_more, get_or-append-add, get_or-append_right, get_or_append_left, length-map, length-take-le, same_lists, take-append-drop, take_all}
pub use Rattle.std.proofs.lemmas.List.Sums.{count_by-le-length, prefix_len-le-length, prefix_len_passes, sum_by-append}
pub use Rattle.std.proofs.lemmas.Simd.{chunk-drop, get_or-chunk, leading_from_mask_l, length-chunk, mask_l-mod, ones-mask_l, trailing_mask_l}
pub use Rattle.std.proofs.lemmas.Str.{byte_from_char, char_from_byte, chars-append, chars-encodes, Chars-gives, chars-IsAscii, chars-nil, chars_past_char, encode_ascii, encodes-chars, IsCharBoundary-after_ascii, IsCharBoundary-before_ascii, IsCharBoundary-end, IsCharBoundary-start, IsUtf8-past_char, IsUtf8-string_bytes, IsUtf8-take, len_utf8_bounds, length-encode, length-le-encodes}
pub use Rattle.std.specs.Iterator.{AlwaysYields, Count, IsFinite, Yields}
pub use Rattle.std.specs.List.{count_by, list_any, prefix_len, slice_range}
pub use Rattle.std.specs.Prelude.{chars, encode_utf8, encode_utf8_all, Err, nat_lt, Ok, OnOk, Result, slice_get, String, string_bytes}
pub use Rattle.std.specs.Str.{IsAscii, IsCharBoundary, IsUtf8}
pub use Rattle.std.specs.Str.Iter.{chars_rest, chars_steps}
pub use Rattle.std.specs.declared.str.Chars.{Chars}
pub use Rattle.defs_text.specs.Position.{Position}
pub use Rattle.defs_text.specs.Text.{is_empty, up_to_nul}
unfoldable pub use Rattle.defs_text.specs.Text.{string_chars}
pub use Rattle.yaml_chars.specs.BlockLines.{AreSimpleUpTo, begin, Ends, EndsKey, EndsLine, GivesPart, halts_simple, indented, IsSimpleText, IsTextUpTo, TakesKey, TakesLine}
unfoldable pub use Rattle.yaml_chars.specs.BlockLines.{is_simple, opens_simple}
unfoldable pub use Rattle.yaml_chars.specs.Class.{is_alphanumeric, is_blank, is_break, is_flow}
pub use Rattle.yaml_chars.specs.Run.{bare, GoesOn, GoesOver, ran}
unfoldable pub use Rattle.yaml_chars.specs.Run.{stops}
pub use Rattle.yaml_chars.specs.Source.{CameFrom, IsEnd, IterStands, Pulled, Pulls}
pub use Rattle.yaml_chars.specs.WindowView.{BeginsText, Fills, HasNoNul, position_of, Possible, Reads, SamePosition, Sees, WindowView}
pub use Rattle.yaml_chars.specs.Words.{are_words, AreAscii, AreWordsBetween, AreWordsUpTo, EndsAtAscii, GivesWords, Goes, halts, halts_line, is_beyond, is_first_byte, is_in_words, is_word_byte, IsWordBetween, LanesGo, pairs, stops_beyond, TakesWords}
unfoldable pub use Rattle.yaml_chars.specs.Words.{begins_byte, begins_word, stops_byte}
pub use Rattle.yaml_chars.specs.declared.run.Run.{Run}
pub use Rattle.yaml_chars.specs.declared.run.Run.TheVariants.{Line, Plain, Quoted}
