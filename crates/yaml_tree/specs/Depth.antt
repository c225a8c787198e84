-- How deep arrays and hashes stand one in another: the measure of recursions over trees.
use Rattle.std.specs.Prelude.{ℕ, suc, max}
use Rattle.defs_tree.specs.Tree.{Tree, real, integer, string, boolean, array, hash, alias, null, bad_value, Items, no_items, item, Pairs, no_pairs, pair}

abbrev mutual
  -- of a tree: 0 for a scalar, and one more than what stands in it for an array and a hash, an empty one too
  pub depth : Tree → ℕ
  depth (real s) = 0
  depth (integer z) = 0
  depth (string s) = 0
  depth (boolean b) = 0
  depth (array ts) = suc (items_depth ts)
  depth (hash ps) = suc (pairs_depth ps)
  depth (alias n) = 0
  depth null = 0
  depth bad_value = 0

  -- of the deepest item
  pub items_depth : Items → ℕ
  items_depth no_items = 0
  items_depth (item t ts) = max (depth t) (items_depth ts)

  -- of the deepest key or value
  pub pairs_depth : Pairs → ℕ
  pairs_depth no_pairs = 0
  pairs_depth (pair k v ps) = max (max (depth k) (depth v)) (pairs_depth ps)
