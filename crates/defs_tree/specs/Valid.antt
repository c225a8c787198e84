-- What every tree of the library meets: its integers have 64 bits, and no hash in it has a key twice.
use Rattle.std.specs.Prelude.{IsTrue}
use Rattle.defs_tree.specs.Tree.{Tree, integer, array, hash, Items, no_items, item, Pairs, no_pairs, pair, pair_list_of}
use Rattle.defs_tree.specs.Pairs.{AreDistinct}
use Rattle.defs_tree.specs.Typing.{fits_i64}

abbrev mutual
  -- each hash in the tree has distinct keys
  pub IsDistinct : Tree → Type 0
  IsDistinct (array ts) = AllDistinct ts
  IsDistinct (hash ps) = AreDistinct (pair_list_of ps) × AllPairsDistinct ps
  IsDistinct _ = Unit {0}

  -- in each of the items
  pub AllDistinct : Items → Type 0
  AllDistinct no_items = Unit {0}
  AllDistinct (item t ts) = IsDistinct t × AllDistinct ts

  -- in each key and each value
  pub AllPairsDistinct : Pairs → Type 0
  AllPairsDistinct no_pairs = Unit {0}
  AllPairsDistinct (pair k v ps) = IsDistinct k × IsDistinct v × AllPairsDistinct ps

abbrev mutual
  -- each integer in the tree is from -2^63 to 2^63 - 1
  pub FitsI64 : Tree → Type 0
  FitsI64 (integer z) = IsTrue (fits_i64 z)
  FitsI64 (array ts) = AllFitI64 ts
  FitsI64 (hash ps) = AllPairsFitI64 ps
  FitsI64 _ = Unit {0}

  -- in each of the items
  pub AllFitI64 : Items → Type 0
  AllFitI64 no_items = Unit {0}
  AllFitI64 (item t ts) = FitsI64 t × AllFitI64 ts

  -- in each key and each value
  pub AllPairsFitI64 : Pairs → Type 0
  AllPairsFitI64 no_pairs = Unit {0}
  AllPairsFitI64 (pair k v ps) = FitsI64 k × FitsI64 v × AllPairsFitI64 ps
