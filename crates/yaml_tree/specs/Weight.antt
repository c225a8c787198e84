-- How much of a tree is left to be taken apart.
use Rattle.std.specs.Prelude.{ℕ, suc, ◌+◌, ◌*◌, ◌-◌, List, []}
use Rattle.defs_tree.specs.Tree.{Tree, array, hash, Items, no_items, item, Pairs, no_pairs, pair, list_of, pair_list_of}
use Rattle.yaml_tree.specs.Flat.{flat}

abbrev mutual
  -- how many nodes there are in a tree, with itself
  pub nodes : Tree → ℕ
  nodes (array ts) = suc (items_nodes ts)
  nodes (hash ps) = suc (pairs_nodes ps)
  nodes t = 1

  -- in items
  pub items_nodes : Items → ℕ
  items_nodes no_items = 0
  items_nodes (item t ts) = nodes t + items_nodes ts

  -- in pairs: in their keys and values
  pub pairs_nodes : Pairs → ℕ
  pairs_nodes no_pairs = 0
  pairs_nodes (pair k v ps) = nodes k + nodes v + pairs_nodes ps

abbrev mutual
  -- how deep last items and last values stand one in another in a tree
  pub chain : Tree → ℕ
  chain (array ts) = items_chain ts
  chain (hash ps) = pairs_chain ps
  chain t = 0

  -- of items: that of the last, and one
  pub items_chain : Items → ℕ
  items_chain no_items = 0
  items_chain (item t no_items) = suc (chain t)
  items_chain (item t (item u us)) = items_chain (item u us)

  -- of pairs: that of the last value, and one
  pub pairs_chain : Pairs → ℕ
  pairs_chain no_pairs = 0
  pairs_chain (pair k v no_pairs) = suc (chain v)
  pairs_chain (pair k v (pair l w ps)) = pairs_chain (pair l w ps)

-- it falls where a node goes, and where a collection is put in the last place of one that stood in it
abbrev pub weight : Tree → ℕ
weight t = 2 * nodes t - chain t

-- the items of an array, the keys and values of a hash; else none
abbrev pub parts : Tree → List Tree
parts (array ts) = list_of ts
parts (hash ps) = flat (pair_list_of ps)
parts t = []

-- the last item changed by a function
abbrev pub items_with_last : (Tree → Tree) → Items → Items
items_with_last f no_items = no_items
items_with_last f (item t no_items) = item (f t) no_items
items_with_last f (item t (item u us)) = item t (items_with_last f (item u us))

-- the last item of an array changed by a function
abbrev pub with_last : (Tree → Tree) → Tree → Tree
with_last f (array ts) = array (items_with_last f ts)
with_last f t = t
