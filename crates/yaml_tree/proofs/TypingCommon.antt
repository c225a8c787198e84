-- The words of other crates and of specs/ that the proofs here use, passed on from one place. Declares nothing.
pub use Rattle.std.proofs.Common.{[], ap, arith, Bool, drop, Err, false, get_or, length, List, map, None, not, Ok, Option, refl, Result, rules, Some, subst, suc, sym, take, true, zero, ℕ, ◌&&◌, ◌*◌, ◌++◌, ◌+◌, ◌-◌, ◌<◌, ◌^◌, ◌||◌, ◌∙◌, ◌∷◌, ◌≡◌, ◌≤◌, ◌⊎◌}
pub use Rattle.std.proofs.lemmas.Bool.{and_from, and_parts}
pub use Rattle.std.proofs.lemmas.Bool.Decides.{nat_tests}
pub use Rattle.std.proofs.lemmas.Slice.Eq.{bytes_eq-Decides}
pub use Rattle.std.proofs.lemmas.Str.{chars-IsAscii, encodes-chars, encodes-IsAscii}
pub use Rattle.std.specs.Char.{digit_value, is_ascii_digit}
pub use Rattle.std.specs.List.{list_all}
pub use Rattle.std.specs.Prelude.{codes, if◌then◌else◌, nat_lt, option_and_then, option_map, pos, slice_index, unwrap_or, ℤ, ◌==◌}
pub use Rattle.std.specs.Str.{all_ascii_digits, chars, IsAscii, IsUtf8}
pub use Rattle.std.specs.Str.Parse.{digits_value, ParsesSigned}
pub use Rattle.defs_text.specs.Text.{is_empty}
pub use Rattle.defs_tree.proofs.DecimalReading.{begins_in, is_decimal-read, reads_decimal, reads_on}
pub use Rattle.defs_tree.proofs.GrammarLaws.{after_all, list_all-more}
pub use Rattle.defs_tree.specs.Grammar.{at_least_one, is_among}
pub use Rattle.defs_tree.specs.Tree.{boolean, integer, null, real, string, Tree}
pub use Rattle.defs_tree.specs.Typing.{after_prefix, false_words, fits_i64, is_decimal, is_digit, is_point, is_sign, null_words, number, signed_number, special_words, true_words, where_true}
unfoldable pub use Rattle.defs_tree.specs.Typing.{typing}
pub use Rattle.yaml_tree.specs.Values.{begins_value, begins_word}
