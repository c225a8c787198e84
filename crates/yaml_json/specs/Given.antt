-- What the tree of every `Yaml` meets, keys that are no strings aside: integers have 64 bits, strings are characters, and no hash has
-- a key twice.
use Rattle.std.specs.Prelude.{IsTrue}
use Rattle.defs_tree.specs.Tree.{Tree, integer, string, array, hash, Items, no_items, item, Pairs, no_pairs, pair, pair_list_of}
use Rattle.defs_tree.specs.Pairs.{AreDistinct}
use Rattle.defs_tree.specs.Typing.{fits_i64}
use Rattle.defs_layout.specs.HasJson.{are_characters}

-- a key
abbrev pub IsKeyGiven : Tree → Type 0
IsKeyGiven (string s) = IsTrue (are_characters s)
IsKeyGiven _ = Unit {0}

abbrev mutual
  -- a tree
  pub IsGiven : Tree → Type 0
  IsGiven (integer z) = IsTrue (fits_i64 z)
  IsGiven (string s) = IsTrue (are_characters s)
  IsGiven (array ts) = AreGiven ts
  IsGiven (hash ps) = AreDistinct (pair_list_of ps) × ArePairsGiven ps
  IsGiven _ = Unit {0}

  -- each of the items
  pub AreGiven : Items → Type 0
  AreGiven no_items = Unit {0}
  AreGiven (item t ts) = IsGiven t × AreGiven ts

  -- each key and each value
  pub ArePairsGiven : Pairs → Type 0
  ArePairsGiven no_pairs = Unit {0}
  ArePairsGiven (pair k v ps) = IsKeyGiven k × IsGiven v × ArePairsGiven ps

-- the parts of an array or a hash
abbrev pub ArePartsGiven : Tree → Type 0
ArePartsGiven (array ts) = AreGiven ts
ArePartsGiven (hash ps) = ArePairsGiven ps
ArePartsGiven _ = Unit {0}

-- a tree that has no parts
abbrev pub IsFlatGiven : Tree → Type 0
IsFlatGiven (integer z) = IsTrue (fits_i64 z)
IsFlatGiven (string s) = IsTrue (are_characters s)
IsFlatGiven _ = Unit {0}
