-- The words of other crates and of specs/ that the proofs on reading use, and what calls give, passed on from one place. Declares nothing.
pub use Rattle.std.proofs.Common.{[], ap, append-nil, append_assoc, ap₂, arith, Bool, chars, cond, drop, encode_utf8, encode_utf8_all, false, get_or, IfSome, if◌then◌else◌, is_some, IsCharBoundary, IsUtf8, length, length-append, length-set, List, None, not, Option, option_map, option_to_list, refl, rules, set, slice_index_or, slice_set, Some, String, string_bytes, subst, suc, sym, take, true, vec_len, ℕ, ◌&&◌, ◌*◌, ◌++◌, ◌+◌, ◌-◌, ◌<◌, ◌==◌, ◌∙◌, ◌∷◌, ◌≡◌, ◌≤◌}
pub use Rattle.std.proofs.lemmas.Bool.{and_from, and_parts, ne_eqb, true≢false}
pub use Rattle.std.proofs.lemmas.Bool.Decides.{nat_tests}
pub use Rattle.std.proofs.lemmas.List.{nil_from_length, same_from_push, take-append-drop, take_all, take_more}
pub use Rattle.std.proofs.lemmas.List.Folds.{list_all-append}
pub use Rattle.std.proofs.lemmas.List.Sums.{prefix_len-le-length}
pub use Rattle.std.proofs.lemmas.Str.{chars-append, chars-nil, chars_past_char, encode_ascii, encodes-chars, IsCharBoundary-after_ascii, IsCharBoundary-at_seam, IsUtf8-from_ascii, IsUtf8-string_bytes, IsUtf8-take, scalars-chars}
pub use Rattle.std.specs.Char.{is_ascii_digit, IsScalar}
pub use Rattle.std.specs.List.{list_all, prefix_len}
pub use Rattle.std.proofs.Math.Seq.{drop-append_seam, take-append_seam}
pub use Rattle.yaml_emitter.proofs.ByteLemmas.{all_pass, all_tested, low_at, low_chars, run_boundary}
pub use Rattle.yaml_emitter.proofs.EndLemmas.{low_front}
pub use Rattle.defs_layout.specs.Json.{false_word, IsJson, IsJsonText, Json, levels, null_word, number, spell, string, tree_of, true_word}
pub use Rattle.defs_layout.specs.JsonGap.{Blank, blank_character, carriage_return, line_feed, space, spell_gap, tab, TabsBeginLines}
pub use Rattle.defs_layout.specs.JsonNumber.{are_digits, Exponent, exponent, Fraction, fraction, is_exponent, is_fraction, is_number, is_whole, letter_e, Number, spell_exponent, spell_fraction, spell_minus, spell_number}
pub use Rattle.defs_layout.specs.JsonString.{are_pieces, backspace, form_feed, four_digits, is_piece, is_surrogate, itself, letter_of, new_line, Piece, quotation_mark, return, reverse_solidus, Short, short, solidus, spell_piece, spell_pieces, spell_string, tabulator, unicode}
unfoldable pub use Rattle.defs_layout.specs.JsonString.{is_unescaped}
unfoldable pub use Rattle.defs_text.specs.Text.{string_chars}
pub use Rattle.defs_tree.proofs.GrammarLaws.{after_all, list_all-more}
pub use Rattle.defs_tree.specs.Tree.{Tree}
pub use Rattle.yaml_chars.proofs.MaskLemmas.{below, either, hit, masked, run_stops, run_through}
pub use Rattle.yaml_json.proofs.Calls.{ok_of, was_ok}
pub use Rattle.yaml_json.specs.Numbers.{IsDigits, IsExponentPart, IsFractionPart, IsMinus, IsNumberPart, IsSign, IsWhole}
pub use Rattle.yaml_json.specs.Opened.{Adds, AreOpen, HasValue, IsIn, IsInArray, IsInObject, Puts, PutsItem, PutsLast, PutsMember, tree_in}
pub use Rattle.yaml_json.specs.Reads.{AreItems, ArePairs, IsAsciiFirst, IsCode, IsEscape, IsFirst, IsGap, IsInside, IsKey, IsNumber, IsPart, IsRun, IsShort, IsStringEnd, IsValue, IsWholeValue, Skips, TakesDigit}
pub use Rattle.yaml_json.specs.Runs.{ends_run, is_ascii, stands}
pub use Rattle.yaml_tree.specs.View.{array_tree, hash_tree, view}
