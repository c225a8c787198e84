-- The words of other crates and of specs/ that the proofs here use, passed on from one place. Declares nothing.
pub use Rattle.defs_tree.proofs.Merging.{each_merged, EachItem, lacks_key, Opens, values_distinct}
pub use Rattle.defs_tree.proofs.OverlayLaws.{Each, each_append, each_lookup, each_new, laid_distinct, laid_value, list_of_pairs}
pub use Rattle.defs_tree.specs.Merge.{brought, merge_key, merged, merged_items, merged_pairs, merged_values, pairs_of_mappings, with_new_pair, with_new_pairs}
pub use Rattle.defs_tree.specs.Order.{tree_eq}
pub use Rattle.defs_tree.specs.Overlay.{new_pairs, overlay, pairs_under}
pub use Rattle.defs_tree.specs.Pairs.{AreDistinct, has_key, insert, Lacks, lookup, without}
pub use Rattle.defs_tree.specs.Tree.{array, hash, item, Items, items_of, no_items, no_pairs, pair, pair_list_of, Pairs, pairs_of, string, Tree}
pub use Rattle.defs_tree.specs.Writable.{AllHaveText, AllPairsHaveText, HasText, IsShortKey, IsWritable, item_levels, levels, pair_levels}
pub use Rattle.overlay.specs.Inserted.{inserted}
pub use Rattle.std.proofs.Common.{[], ap, append-nil, append_assoc, arith, Bool, drop, false, length, List, None, not, Option, refl, Some, subst, suc, sym, true, zero, ℕ, ◌*◌, ◌++◌, ◌+◌, ◌<◌, ◌∙◌, ◌∷◌, ◌≡◌, ◌≤◌}
pub use Rattle.std.specs.Prelude.{bytes_eq, codes, is_some, OnOk, option_map, String, string_bytes, ◌^◌}
pub use Rattle.yaml_tree.specs.Depth.{depth, items_depth, pairs_depth}
pub use Rattle.yaml_tree.specs.View.{items_view, view}
