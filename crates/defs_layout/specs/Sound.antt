-- What the trees of texts have in common: each key of a hash stands in it once, integers have 64 bits, and there is neither an alias
-- nor a node that could not be read.
-- YAML 1.2, section 3.2.1 (the representation graph).
use Rattle.std.specs.Prelude.{List, [], ◌∷◌}
use Rattle.defs_tree.specs.Tree.{Tree, alias, array, hash, bad_value, Items, no_items, item, Pairs, no_pairs, pair}
use Rattle.defs_tree.specs.Valid.{IsDistinct, FitsI64}

abbrev mutual
  -- no alias and no bad value stands in the tree
  pub HasValues : Tree → Type 0
  HasValues (array ts) = AllHaveValues ts
  HasValues (hash ps) = AllPairsHaveValues ps
  HasValues (alias n) = ⊥
  HasValues bad_value = ⊥
  HasValues _ = Unit {0}

  -- nor in any of the items
  pub AllHaveValues : Items → Type 0
  AllHaveValues no_items = Unit {0}
  AllHaveValues (item t ts) = HasValues t × AllHaveValues ts

  -- nor in any key or value
  pub AllPairsHaveValues : Pairs → Type 0
  AllPairsHaveValues no_pairs = Unit {0}
  AllPairsHaveValues (pair k v ps) = HasValues k × HasValues v × AllPairsHaveValues ps

-- the three together
pub record IsSound (t : Tree) : Type 0 where
  pub distinct : IsDistinct t
  pub fits : FitsI64 t
  pub has_values : HasValues t

-- of each of the trees
abbrev pub AreAllSound : List Tree → Type 0
AreAllSound [] = Unit {0}
AreAllSound (t ∷ ts) = IsSound t × AreAllSound ts
