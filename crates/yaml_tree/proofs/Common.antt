-- The words of other crates and of specs/ that the proofs here use, passed on from one place. Declares nothing.
pub use Rattle.std.proofs.Common.{[], add-one, ap, append_assoc, arith, Bool, cond, drop, drop-cons, eqb, Equal, false, fold, get_or, Greater, inl, inr, IsSome, length, Less, List, map, min, nat_cmp, None, not, OnErr, option_map, Ordering, refl, Result, rules, set, Some, subst, suc, sym, T, true, vec_len, zero, ℕ, ◌%◌, ◌*◌, ◌++◌, ◌+◌, ◌-◌, ◌/◌, ◌<◌, ◌^◌, ◌∙◌, ◌∷◌, ◌≡◌, ◌≢◌, ◌≤◌, ◌⊎◌}
pub use Rattle.std.proofs.lemmas.Bool.{cases_lt, eqb-true, false_from_ne_true}
pub use Rattle.std.proofs.lemmas.Bool.Decides.{nat_tests}
pub use Rattle.std.proofs.lemmas.Cmp.{nat_cmp_total, nat_list_cmp_total, on_total, then_total, tied_itself}
pub use Rattle.std.proofs.lemmas.List.{drop_all, drop_more, get_or-map, length-drop, length-map, map-set}
pub use Rattle.std.proofs.lemmas.List.Edits.{get_or-insert_above, get_or-insert_at, get_or-insert_below, get_or-remove_above, get_or-remove_below, length-insert, length-remove}
pub use Rattle.std.proofs.lemmas.Str.{encodes-chars, IsUtf8-string_bytes}
pub use Rattle.std.specs.Cmp.Lexicographic.{slice_cmp}
pub use Rattle.std.specs.List.{insert, list_any, remove}
pub use Rattle.std.specs.Ordering.{on, ordering_reverse, ordering_then}
pub use Rattle.std.specs.Prelude.{chars, nat_lt, pos, slice_get, slice_set, String, string_bytes}
pub use Rattle.std.specs.Str.{encode_utf8_all, IsUtf8}
unfoldable pub use Rattle.defs_text.specs.Text.{string_chars}
pub use Rattle.defs_tree.proofs.OrderLaws.{tree_cmp_total, tree_eq_decides, tree_tied}
pub use Rattle.defs_tree.proofs.PairsLaws.{AreDistinct-without, AreDistinct_insert, tree_eq-itself, tree_eq-other}
pub use Rattle.defs_tree.proofs.Places.{absent, AreDistinct-with_value_at, place_in}
pub use Rattle.defs_tree.specs.Order.{items_cmp, pairs_cmp, tree_cmp}
pub use Rattle.defs_tree.specs.Pairs.{AreDistinct, Lacks, last_of, lookup, place_of, value_at, with_value, with_value_at, without}
pub use Rattle.defs_tree.specs.Tree.{array, hash, integer, item, Items, items_of, list_of, no_items, no_pairs, pair, pair_list_of, pairs_of, real, string, Tree}
pub use Rattle.yaml_tree.proofs.Joining.{number_got, rank_inside, rank_within}
pub use Rattle.yaml_tree.specs.Blocks.{joined, rank_of}
pub use Rattle.yaml_tree.specs.Edges.{AreRising, digest_at}
pub use Rattle.yaml_tree.specs.Moves.{closed_up, moved_up}
pub use Rattle.yaml_tree.specs.declared.entry.Entry.{Entry}
pub use Rattle.yaml_tree.specs.Copying.{IsFilled, Leads, left, lefts, source_tree}
pub use Rattle.yaml_tree.specs.Digests.{AreDigests, digest, first_by, HaveRising, IsWindow, with_digits}
unfoldable pub use Rattle.yaml_tree.specs.Digests.{text_digest}
pub use Rattle.yaml_tree.specs.Feed.{items_feed, pairs_feed, tree_feed}
pub use Rattle.yaml_tree.specs.Flat.{flat, paired}
pub use Rattle.yaml_tree.specs.Node.{is_array, is_hash, value_at_index, value_at_text}
pub use Rattle.yaml_tree.specs.Packed.{digits, IsPacked, unpacked}
pub use Rattle.yaml_tree.specs.Places.{digest_of_entry, digests, digests_in, HasPlace, HasSpot, IsIndexed, place_of_entry, places, places_in, rank_at}
pub use Rattle.yaml_tree.specs.Printing.{turns, unprinted}
pub use Rattle.yaml_tree.specs.Probes.{probed}
pub use Rattle.yaml_tree.specs.Ranked.{AreRanked, IsHash, IsRank, IsRankGap, key_at, key_cmp, key_of_rank}
pub use Rattle.yaml_tree.specs.View.{array_tree, items_view, pairs_view, view}
pub use Rattle.yaml_tree.specs.Weight.{chain, items_chain, items_nodes, items_with_last, nodes, pairs_chain, pairs_nodes, parts, weight, with_last}
pub use Rattle.yaml_tree.specs.Writes.{with_index_value, with_text_value}
pub use Rattle.yaml_tree.specs.declared.ranks.Kept.{Kept}
pub use Rattle.yaml_tree.specs.declared.ranks.Kept.TheVariants.{Few, Many}
pub use Rattle.yaml_tree.specs.declared.yaml.Yaml.{Yaml}
pub use Rattle.yaml_tree.specs.declared.yaml.Yaml.TheVariants.{Array, Hash}
