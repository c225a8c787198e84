-- The words of other crates and of specs/ that the proofs here use, passed on from one place. Declares nothing.
pub use Rattle.std.proofs.Common.{[], ap, append_assoc, arith, Bool, drop, false, get_or, inl, inr, length, length-append, length-drop, length-set, length-take, List, map, refl, rules, set, subst, suc, sym, take, true, zero, ℕ, ◌*◌, ◌++◌, ◌+◌, ◌-◌, ◌/◌, ◌<◌, ◌^◌, ◌∙◌, ◌∷◌, ◌≡◌, ◌≤◌}
pub use Rattle.std.proofs.lemmas.Bool.{cases_lt, ltb-false, ltb-true}
pub use Rattle.std.proofs.lemmas.Bool.Decides.{nat_tests}
pub use Rattle.std.proofs.lemmas.List.{append-nil, drop_all, get_or_append_left, get_or_default, get_or_past, get_or_push, get_or_read, length-map, map-append, take-append-drop, take_all, take_at}
pub use Rattle.std.proofs.lemmas.List.Edits.{get_or-insert_below, insert-append_left, insert-append_right, insert_end, length-insert, length-remove, map_over_more, remove-append_left, remove-append_right}
pub use Rattle.std.specs.List.{insert, remove}
pub use Rattle.defs_tree.specs.Digits.{binary_digits}
pub use Rattle.yaml_tree.specs.Blocks.{AreFilled, halved, head_at, IsNarrowed, joined, rank_of, start}
pub use Rattle.yaml_tree.specs.Edges.{AreRising, digest_at, IsEdge, IsHalving, number_at, place_at}
pub use Rattle.yaml_tree.specs.Moves.{entry_closed_up, entry_moved_up}
pub use Rattle.yaml_tree.specs.Starts.{AreApart, AreCounted, AreStarts, head_length}
pub use Rattle.yaml_tree.specs.declared.entry.Entry.{Entry}
