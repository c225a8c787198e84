-- Whether a tree is shallow, and each node of it has a JSON text: its keys are strings, its reals are numbers of JSON, and no alias and no
-- bad value stands in it.
use Rattle.std.specs.Prelude.{ℕ, Bool, true, false, ◌&&◌, nat_le}
use Rattle.defs_tree.specs.Tree.{Tree, real, array, hash, alias, bad_value, Items, no_items, item, Pairs, no_pairs, pair}
use Rattle.defs_tree.specs.Typing.{is_string}
use Rattle.defs_layout.specs.HasJson.{nesting, item_nesting, member_nesting}
use Rattle.defs_layout.specs.JsonReal.{is_json_real}

abbrev mutual
  -- each node of a tree has one
  pub is_whole : Tree → Bool
  is_whole (real s) = is_json_real s
  is_whole (array ts) = are_items_whole ts
  is_whole (hash ps) = are_pairs_whole ps
  is_whole (alias n) = false
  is_whole bad_value = false
  is_whole _ = true

  -- each of the items
  pub are_items_whole : Items → Bool
  are_items_whole no_items = true
  are_items_whole (item t ts) = is_whole t && are_items_whole ts

  -- each key and each value
  pub are_pairs_whole : Pairs → Bool
  are_pairs_whole no_pairs = true
  are_pairs_whole (pair k v ps) = is_string k && (is_whole v && are_pairs_whole ps)

-- and at most so many arrays and hashes stand one in another
abbrev pub is_shallow : (levels : ℕ) → Tree → Bool
is_shallow levels t = is_whole t && nat_le (nesting t) levels

abbrev pub are_items_shallow : (levels : ℕ) → Items → Bool
are_items_shallow levels ts = are_items_whole ts && nat_le (item_nesting ts) levels

abbrev pub are_pairs_shallow : (levels : ℕ) → Pairs → Bool
are_pairs_shallow levels ps = are_pairs_whole ps && nat_le (member_nesting ps) levels
