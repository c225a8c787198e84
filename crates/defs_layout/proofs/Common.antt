-- The words of other crates and of specs/ that the proofs here use, passed on from one place. Declares nothing.
pub use Rattle.std.proofs.Common.{[], ap, append-nil, append_assoc, arith, Bool, false, get_or, length, List, None, not, Option, refl, replicate, Some, subst, suc, sym, true, true≢false, zero, ℕ, ◌&&◌, ◌++◌, ◌+◌, ◌<◌, ◌^◌, ◌||◌, ◌∙◌, ◌∷◌, ◌≡◌, ◌≢◌, ◌≤◌}
pub use Rattle.std.proofs.lemmas.Bool.{and_from, and_parts, eqb-true, ltb-true, or_parts}
pub use Rattle.std.proofs.lemmas.Bool.Decides.{nat_tests}
pub use Rattle.std.specs.Char.{is_ascii_digit}
pub use Rattle.std.specs.Fmt.{decimal}
pub use Rattle.std.specs.List.{list_all}
pub use Rattle.std.specs.Prelude.{codes, if◌then◌else◌, is_none, is_some, map, max, nat_lt, neg_ℤ, negsuc, option_and_then, pos, slice_index, ℤ, ◌%◌, ◌/◌, ◌==◌}
pub use Rattle.std.specs.Str.Parse.{AllDigits}
pub use Rattle.defs_layout.specs.Anchored.{Anchor, begun, ended, last_tree, with_end}
pub use Rattle.defs_layout.specs.Basic.{AreBasicEntries, AreBasicFields, IsBasic, IsBasicBlock, IsBasicField, IsBasicLayout, IsBasicRoot, IsBasicValue}
pub use Rattle.defs_layout.specs.BlockLines.{blank, full, Line, spell_line, spell_lines}
pub use Rattle.defs_layout.specs.Fault.{are_strings, first_fault, first_item_fault, first_member_fault, first_of, has_other_key, here, is_no_number, step_of}
pub use Rattle.defs_layout.specs.Gap.{AreEmptyLines, comment_line, empty_line, GapLine, IsGap, next_line, spaces, spell_ending, spell_gap}
unfoldable pub use Rattle.defs_layout.specs.Gap.{is_line_character}
pub use Rattle.defs_layout.specs.HasJson.{AllHaveJson, are_characters, AreMembers, HasJson, is_character, IsKey, item_nesting, member_nesting, nesting}
pub use Rattle.defs_layout.specs.Json.{AreElements, element, element_levels, Elements, IsJson, IsJsonGap, IsJsonText, IsWellFormed, items, Json, JsonText, last_element, last_member, levels, member, member_levels, Members, pair_list, spell, spell_elements, spell_members, tree_of}
pub use Rattle.defs_layout.specs.JsonGap.{Blank, carriage_return, line_feed, space, tab, TabsBeginLines}
pub use Rattle.defs_layout.specs.JsonLaws.{JsonTextsAreJson, ValuesHaveJson}
pub use Rattle.defs_layout.specs.JsonNumber.{are_digits, Exponent, exponent, Fraction, fraction, integer_value, is_fraction, is_number, is_whole, minus, no_exponent, no_fraction, no_sign, Number, number, number_tree, plus, Sign, spell_exponent, spell_fraction, spell_minus, spell_number, spell_sign}
pub use Rattle.defs_layout.specs.JsonReal.{is_frac, is_json_real}
unfoldable pub use Rattle.defs_layout.specs.JsonReal.{is_json_number}
pub use Rattle.defs_layout.specs.JsonString.{are_pieces, backspace, character_of, form_feed, is_piece, itself, letter_of, new_line, Piece, quotation_mark, return, reverse_solidus, Short, short, spell_piece, spell_pieces, spell_string, tabulator, unescaped, unicode, value_of}
unfoldable pub use Rattle.defs_layout.specs.JsonString.{is_unescaped}
pub use Rattle.defs_layout.specs.JsonText.{deeper, json_text, key_end, key_text, more_items, more_members}
pub use Rattle.defs_layout.specs.Layout.{anchored, anchors_after, AreDocuments, AreEntries, AreLaidOut, array, at_key, below, beside, Block, block, comment, compact, Document, document, Documents, empty_array, empty_hash, Entries, entry, explicit, Field, field, Fields, folded, hash, implicit, Inline, inline, IsBlock, IsField, IsImplicitKey, IsPlain, IsRoot, IsValue, last_document, last_entry, last_field, Layout, no_comment, plain, quoted, Root, root_tree, Scalar, scalar, single_quoted, spell_block, spell_document, spell_documents, spell_entries, spell_field, spell_fields, spell_inline, spell_literal, spell_scalar, spell_value, trees_of, Value}
unfoldable pub use Rattle.defs_layout.specs.Layout.{is_on_one_line}
unfoldable pub use Rattle.defs_text.specs.Classes.{are_marks, is_blank, is_break, is_nul}
pub use Rattle.defs_text.specs.Text.{is_empty}
pub use Rattle.defs_tree.proofs.DecimalReading.{begins_in, exponent_read, reads_exponent}
pub use Rattle.defs_tree.proofs.GrammarLaws.{after_all, after_one, any-after, at_least-after, cut_from, cut_to, empty-followed_by, followed_by-and, followed_by-empty, followed_by-or, optional-then, optional_one-after, or-false, Rejects}
pub use Rattle.defs_tree.specs.Escapes.{double_quoted, escaped_code, hexadecimal_digit, written_escapes}
unfoldable pub use Rattle.defs_tree.specs.Escapes.{written_character}
pub use Rattle.defs_tree.specs.Grammar.{any_number, at_least_one, followed_by, in_order, one, optional}
unfoldable pub use Rattle.defs_tree.specs.Literal.{is_literal_character, is_literal_text, is_root_literal}
pub use Rattle.defs_tree.specs.Order.{tree_eq}
pub use Rattle.defs_tree.specs.Pairs.{AreDistinct}
pub use Rattle.defs_tree.specs.Path.{index, key}
unfoldable pub use Rattle.defs_tree.specs.Quoting.{is_quoted, is_unfit_for_plain}
pub use Rattle.defs_tree.specs.Tree.{alias, bad_value, boolean, integer, item, Items, no_items, no_pairs, null, pair, pair_list_of, Pairs, pairs_of, real, string, Tree}
pub use Rattle.defs_tree.specs.Typing.{fits_i64, is_digit, is_exponent, is_exponent_mark, is_minus, is_sign, signed_decimal}
unfoldable pub use Rattle.defs_tree.specs.Typing.{is_decimal, typing}
