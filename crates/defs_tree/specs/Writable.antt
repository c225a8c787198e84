-- The trees that `dump` writes to a text that is read back as the same tree.
use Rattle.std.specs.Prelude.{ℕ, suc, max, ◌^◌, ◌<◌, ◌≤◌, length, IsTrue}
use Rattle.defs_tree.specs.Tree.{Tree, real, array, hash, alias, bad_value, Items, no_items, item, Pairs, no_pairs, pair}
use Rattle.defs_tree.specs.Typing.{is_real_text}
use Rattle.defs_tree.specs.Spelling.{spelling}

abbrev mutual
  -- the levels of a tree: a scalar and an empty array or hash have one, any other array or hash one more than its deepest part
  pub levels : Tree → ℕ
  levels (array ts) = suc (item_levels ts)
  levels (hash ps) = suc (pair_levels ps)
  levels _ = 1

  -- of the deepest item; none where there is no item
  pub item_levels : Items → ℕ
  item_levels no_items = 0
  item_levels (item t ts) = max (levels t) (item_levels ts)

  -- of the deepest key or value
  pub pair_levels : Pairs → ℕ
  pair_levels no_pairs = 0
  pair_levels (pair k v ps) = max (max (levels k) (levels v)) (pair_levels ps)

-- a scalar key is spelt in at most 1024 characters
abbrev pub IsShortKey : Tree → Type 0
IsShortKey (array ts) = Unit {0}
IsShortKey (hash ps) = Unit {0}
IsShortKey k = length (spelling k) ≤ 1024

abbrev mutual
  -- there is no alias and no bad value in the tree, each real's text stands for a real, and each scalar key is short
  pub HasText : Tree → Type 0
  HasText (real s) = IsTrue (is_real_text s)
  HasText (array ts) = AllHaveText ts
  HasText (hash ps) = AllPairsHaveText ps
  HasText (alias n) = ⊥
  HasText bad_value = ⊥
  HasText _ = Unit {0}

  -- the same of each item
  pub AllHaveText : Items → Type 0
  AllHaveText no_items = Unit {0}
  AllHaveText (item t ts) = HasText t × AllHaveText ts

  -- the same of each key and each value
  pub AllPairsHaveText : Pairs → Type 0
  AllPairsHaveText no_pairs = Unit {0}
  AllPairsHaveText (pair k v ps) = IsShortKey k × HasText k × HasText v × AllPairsHaveText ps

-- a tree that can be written and read back
pub record IsWritable (t : Tree) : Type 0 where
  pub shallow : levels t < 2 ^ 62
  pub has_text : HasText t
