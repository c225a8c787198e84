-- Trees.
pub use Rattle.yaml_rust2.specs.Counts.{RisesWithin}
pub use Rattle.yaml_rust2.specs.Digits.{binary_digits}
pub use Rattle.yaml_rust2.specs.Feed.{tree_feed}
pub use Rattle.yaml_rust2.specs.Items.{items_in, items_left}
pub use Rattle.yaml_rust2.specs.Node.{array_of, boolean_of, hash_of, integer_of, is_array, is_bad_value, is_hash, is_null, or_else, takes_memory, text_of, value_at_index, value_at_text}
pub use Rattle.yaml_rust2.specs.Order.{tree_cmp, tree_eq}
pub use Rattle.yaml_rust2.specs.Pairs.{AreDistinct, insert, last_of, lookup, place_of, with_value, without}
pub use Rattle.yaml_rust2.specs.Tree.{Tree, items_of, pairs_of}
pub use Rattle.yaml_rust2.specs.Typing.{typing}
pub use Rattle.yaml_rust2.specs.View.{array_tree, hash_tree, items_view, pair_view, pairs_view, view}
pub use Rattle.yaml_rust2.specs.Writes.{with_index_value, with_text_value}
