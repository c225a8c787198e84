-- The words of other crates and of specs/ that the proofs here use, passed on from one place. Declares nothing.
pub use Rattle.std.proofs.Common.{[], ap, append-nil, append_assoc, arith, Bool, cond, Decides, false, inl, inr, length, List, None, not, Option, refl, Some, subst, suc, sym, true, zero, ℕ, ◌&&◌, ◌++◌, ◌+◌, ◌-◌, ◌/◌, ◌<◌, ◌^◌, ◌||◌, ◌∙◌, ◌∷◌, ◌≡◌, ◌≢◌, ◌≤◌, ◌⊎◌}
pub use Rattle.std.proofs.lemmas.Bool.{and_from, and_parts, cond-false, eqb-true, false_from_ne_true, lt-ltb, ltb-true, ne_eqb, not-false, not-true, not_from_false, or_cases, or_left, or_parts, or_right, true≢false}
pub use Rattle.std.proofs.lemmas.Bool.Decides.{nat_tests}
pub use Rattle.std.proofs.lemmas.Fmt.{decimal_is_IsNumeral}
pub use Rattle.std.proofs.lemmas.Slice.Eq.{bytes_eq-Decides}
pub use Rattle.std.proofs.lemmas.Str.Parse.{digit_from_value}
pub use Rattle.std.specs.Char.{digit_value, is_ascii_digit}
pub use Rattle.std.specs.Fmt.{decimal}
pub use Rattle.std.specs.List.{ends_with, filter, list_all, list_any, onto_first, slice_split}
pub use Rattle.std.specs.Option.{option_map_or, option_or}
pub use Rattle.std.specs.Prelude.{chars, codes, Err, FitsSigned, if◌then◌else◌, is_none, is_some, IsAscii, IsTrue, IsUtf8, MatchResult, nat_eq, nat_lt, negsuc, Ok, option_and_then, option_map, pos, replicate, Result, slice_index, unwrap_or, ℤ, ◌==◌}
pub use Rattle.std.specs.Str.Lines.{lines, lines_of_parts}
pub use Rattle.std.specs.Str.Parse.{AllDigits, digits_value, IsNumeral, ParsesSigned, signed_digits_value, without_leading_sign}
pub use Rattle.std.specs.declared.cmp.Ordering.TheVariants.{Equal, Greater, Less}
pub use Rattle.defs_text.specs.Text.{is_empty}
pub use Rattle.defs_tree.specs.Digits.{digits_up_to, IsLeastExponent}
unfoldable pub use Rattle.defs_tree.specs.Digits.{binary_digits}
pub use Rattle.defs_tree.specs.Escapes.{double_quoted, written_escapes}
unfoldable pub use Rattle.defs_tree.specs.Escapes.{written_character}
pub use Rattle.defs_tree.specs.Grammar.{any_number, at_least_one, followed_by, in_order, is_among, IsSplit, one, one_of, optional}
pub use Rattle.defs_tree.specs.Laws.{IsSpeltPlain, MayStandFor}
pub use Rattle.defs_tree.specs.Lines.{ended, is_unbroken, lines_of, onto_first_line}
pub use Rattle.defs_tree.specs.Literal.{literal_header}
unfoldable pub use Rattle.defs_tree.specs.Literal.{is_literal_character, is_literal_text, is_root_literal}
pub use Rattle.defs_tree.specs.Merge.{AllLackMergeKeys, brought, LacksMergeKeys, merge_key, merged, merged_items, merged_pairs, merged_values, pairs_of_mappings, ValuesLackMergeKeys, with_new_pair, with_new_pairs}
pub use Rattle.defs_tree.specs.MergeFault.{any_node, below, first_fault, first_item_fault, first_pair_fault}
pub use Rattle.defs_tree.specs.Order.{items_cmp, pairs_cmp, tree_cmp, tree_eq}
pub use Rattle.defs_tree.specs.Overlay.{new_pairs, overlay, pairs_under}
pub use Rattle.defs_tree.specs.Pairs.{AreDistinct, has_key, insert, Lacks, last_of, lookup, place_of, value_at, with_value, with_value_at, without}
pub use Rattle.defs_tree.specs.Path.{index, key}
pub use Rattle.defs_tree.specs.Quoting.{begins_with, has_indicator_first, has_outer_space, is_float_word, is_in, reserved_words}
unfoldable pub use Rattle.defs_tree.specs.Quoting.{is_quoted, is_unfit_for_plain}
pub use Rattle.defs_tree.specs.Spelling.{boolean_spelling, spelling, string_spelling}
pub use Rattle.defs_tree.specs.Tree.{alias, array, bad_value, boolean, hash, integer, item, Items, items_of, list_of, no_items, no_pairs, null, pair, pair_list_of, Pairs, pairs_of, real, string, Tree}
pub use Rattle.defs_tree.specs.Typing.{by_rows, fits_i64, is_digit, is_exponent, is_exponent_mark, is_mantissa, is_point, is_real, is_real_text, is_sign, is_string, number, rows, signed_decimal, signed_number, special_words, where_true, with_sign}
unfoldable pub use Rattle.defs_tree.specs.Typing.{is_decimal, typing}
pub use Rattle.defs_tree.specs.Valid.{AllDistinct, AllFitI64, AllPairsDistinct, AllPairsFitI64, FitsI64, IsDistinct}
pub use Rattle.defs_tree.specs.Writable.{AllHaveText, AllPairsHaveText, HasText, IsShortKey, IsWritable, levels}
