-- The words and lemmas that the proofs of blocks and of their starts use, passed on from one place. Declares nothing.
pub use Rattle.yaml_tree.proofs.IndexCommon.{[], ap, AreCounted, AreFilled, AreStarts, arith, binary_digits, digest_at, drop, Entry, entry_closed_up, entry_moved_up, get_or, get_or_past, get_or_read, halved, head_at, insert, IsEdge, joined, length, ltb-true, map, map_over_more, nat_tests, place_at, rank_of, refl, remove, rules, start, subst, suc, sym, ◌*◌, ◌+◌, ◌-◌, ◌/◌, ◌<◌, ◌^◌, ◌∙◌, ◌≡◌, ◌≤◌}
pub use Rattle.yaml_tree.proofs.Joining.{all_lent, block_read, edge_first, edge_joined, edge_past, edges_narrow, edges_rise, filled_beside, filled_counted, filled_digits, halved_made, joined_halved, joined_insert, joined_map, joined_push, joined_remove, joined_without, last_block, lent_back, next_digest, not_past, number_got, number_in, rank_inside, rank_within, spot_digest, start_all, start_halved, start_next, start_second, start_within}
pub use Rattle.yaml_tree.proofs.Starting.{can_fall, can_rise, can_subtract, counted_halved, counted_inserted, counted_map, counted_pushed, counted_removed, counted_without, last_counts, start_head, starts_all, starts_pushed, starts_some}
pub use Rattle.yaml_tree.proofs.Halving.{digits_rise, digits_shared, IsSearch, middle, middle_within, search_after, search_before}
