-- Which trees have a JSON text, and how deep it nests. RFC 8259, sections 3 to 7.
use Rattle.std.specs.Prelude.{ℕ, suc, max, Bool, IsTrue, nat_le, List}
use Rattle.std.specs.List.{list_all}
use Rattle.defs_tree.specs.Tree.{Tree, real, integer, string, array, hash, alias, bad_value, Items, no_items, item, Pairs, no_pairs, pair, pair_list_of}
use Rattle.defs_tree.specs.Pairs.{AreDistinct}
use Rattle.defs_tree.specs.Typing.{fits_i64}
use Rattle.defs_layout.specs.JsonReal.{is_json_real}

-- a character of Unicode
abbrev pub is_character : ℕ → Bool
is_character c = nat_le c 0x10FFFF

-- characters alone
abbrev pub are_characters : List ℕ → Bool
are_characters text = list_all is_character text

-- a key: a string
abbrev pub IsKey : Tree → Type 0
IsKey (string s) = IsTrue (are_characters s)
IsKey _ = ⊥

abbrev mutual
  -- Reals are numbers of JSON, keys are strings, and there is no alias and no bad value. The rest is so in each tree of the library:
  -- integers have 64 bits, strings are characters, and no hash has a key twice.
  pub HasJson : Tree → Type 0
  HasJson (real s) = IsTrue (is_json_real s)
  HasJson (integer z) = IsTrue (fits_i64 z)
  HasJson (string s) = IsTrue (are_characters s)
  HasJson (array ts) = AllHaveJson ts
  HasJson (hash ps) = AreDistinct (pair_list_of ps) × AreMembers ps
  HasJson (alias n) = ⊥
  HasJson bad_value = ⊥
  HasJson _ = Unit {0}

  -- each of the items has one
  pub AllHaveJson : Items → Type 0
  AllHaveJson no_items = Unit {0}
  AllHaveJson (item t ts) = HasJson t × AllHaveJson ts

  -- each key is a string, and each value has one
  pub AreMembers : Pairs → Type 0
  AreMembers no_pairs = Unit {0}
  AreMembers (pair k v ps) = IsKey k × HasJson v × AreMembers ps

abbrev mutual
  -- the levels of arrays and objects: none for a scalar
  pub nesting : Tree → ℕ
  nesting (array ts) = suc (item_nesting ts)
  nesting (hash ps) = suc (member_nesting ps)
  nesting _ = 0

  -- of the deepest item
  pub item_nesting : Items → ℕ
  item_nesting no_items = 0
  item_nesting (item t ts) = max (nesting t) (item_nesting ts)

  -- of the deepest value
  pub member_nesting : Pairs → ℕ
  member_nesting no_pairs = 0
  member_nesting (pair k v ps) = max (nesting v) (member_nesting ps)
