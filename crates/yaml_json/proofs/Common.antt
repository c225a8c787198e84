-- The words of other crates and of specs/ that the proofs here use, passed on from one place. Declares nothing.
pub use Rattle.std.proofs.Common.{[], add-one, ap, append-nil, append_assoc, arith, Bool, codes, drop, eqb, eqb→eq, false, FitsSigned, get_or, Global, int_le, is_err, is_none, is_some, length, length-append, length-set, List, map, MatchResult, max, mul-le-mul_left, nat_le, nat_lt, negsuc, None, not, OnErr, Option, pos, refl, Result, reverse, set, Some, String, subst, suc, sym, take, to_z-of_z, true, true≢false, unsigned_abs, unwrap_or, w64, zero, ℕ, ℤ, ◌%◌, ◌&&◌, ◌*◌, ◌++◌, ◌+◌, ◌-◌, ◌/◌, ◌<◌, ◌==◌, ◌^◌, ◌∙◌, ◌∷◌, ◌≡◌, ◌≢◌, ◌≤◌}
pub use Rattle.std.proofs.Math.ListN.{get_or-eq_default, get_or-map}
pub use Rattle.std.proofs.lemmas.Bool.{and_from, and_parts}
pub use Rattle.std.proofs.lemmas.Bool.Decides.{nat_tests}
pub use Rattle.std.proofs.lemmas.Fmt.{decimal_digit, decimal_step, IsAscii-signed, length-decimal-le}
pub use Rattle.std.proofs.lemmas.Grind.{common_steps, take-set_at}
pub use Rattle.std.proofs.lemmas.List.{drop-set, drop_all, drop_more, get_or_default, length-drop, length-map, length-reverse, length-take-le, reverse-append, set_comm, take_more}
pub use Rattle.std.proofs.lemmas.Str.{chars-IsAscii, encodes-chars, encodes-IsAscii, IsUtf8-from_ascii, scalars-chars}
pub use Rattle.std.specs.Char.{is_ascii_digit}
pub use Rattle.std.specs.Fmt.{decimal, signed_decimal}
pub use Rattle.std.specs.Str.{all_scalars, chars, IsAscii, IsUtf8}
pub use Rattle.defs_layout.proofs.Reading.{is_json_number-read, reads_number}
pub use Rattle.defs_layout.specs.Fault.{are_strings, below, Fault, first_fault, first_item_fault, first_member_fault, first_of, here, step_of}
pub use Rattle.defs_layout.specs.HasJson.{AllHaveJson, are_characters, AreMembers, HasJson, IsKey, item_nesting, member_nesting, nesting}
pub use Rattle.defs_layout.specs.JsonReal.{is_frac, is_json_real}
unfoldable pub use Rattle.defs_layout.specs.JsonReal.{is_json_number}
pub use Rattle.defs_layout.specs.JsonText.{deeper, json_text, key_end, key_text, more_items, more_members, new_line}
unfoldable pub use Rattle.defs_text.specs.Text.{string_chars}
pub use Rattle.defs_tree.specs.Box.{is_block}
pub use Rattle.defs_tree.specs.Path.{index, key, Step}
pub use Rattle.defs_tree.specs.Tree.{array, boolean, hash, integer, item, Items, items_of, no_items, no_pairs, null, pair, Pairs, pairs_of, real, string, Tree}
pub use Rattle.defs_tree.specs.Typing.{is_exponent, is_exponent_mark, is_minus, is_sign, is_string}
pub use Rattle.yaml_emitter.proofs.ListLemmas.{all_left, AreLeft, Entries, entry_stopped, first_within, none_decide, none_left, own_no_higher, rest_left}
pub use Rattle.yaml_emitter.proofs.WritingLemmas.{left_after, left_all, left_as, left_none, left_stopped, left_then, left_writes, stopped_as, stopped_at, stopped_early, stopped_first, stopped_for, stopped_late, writes_as, writes_err, writes_for, writes_late, writes_ok, wrote_then}
pub use Rattle.yaml_emitter.specs.At.{is_low}
pub use Rattle.yaml_emitter.specs.Writing.{IsLeft, Stopped, Wrote}
pub use Rattle.yaml_json.specs.Found.{reason_view, step_view}
pub use Rattle.yaml_json.specs.Given.{AreGiven, ArePairsGiven, ArePartsGiven, IsFlatGiven, IsGiven, IsKeyGiven}
pub use Rattle.yaml_json.specs.Left.{before_entry, closing, flat_text, IsTooWide, items_left, members_left, opening, part_nesting, parts_left, shallower}
pub use Rattle.yaml_json.specs.Level.{left_in, part_nodes, tree_left}
pub use Rattle.yaml_json.specs.Nest.{IsOnlyItem, nest_end, Opens}
pub use Rattle.yaml_json.specs.Parts.{Ends, Stops}
pub use Rattle.yaml_json.specs.Search.{ArePlain, fault_in, fault_left, IsMet, IsSoundAtRoot, last_step, Meets, step_in}
pub use Rattle.yaml_json.specs.Shallow.{are_items_shallow, are_items_whole, are_pairs_shallow, are_pairs_whole, is_shallow, is_whole}
pub use Rattle.yaml_json.specs.declared.level.Level.{Level}
pub use Rattle.yaml_tree.specs.Depth.{depth, items_depth, pairs_depth}
pub use Rattle.yaml_tree.specs.Flat.{paired}
pub use Rattle.yaml_tree.specs.View.{hash_tree, items_view, view}
pub use Rattle.yaml_tree.specs.Weight.{nodes}
pub use Rattle.yaml_tree.specs.declared.yaml.Yaml.{Yaml}
