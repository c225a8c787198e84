-- A YAML tree, as clauses see it. Its texts are lists of characters, and a hash is the list of its pairs in order.
-- YAML 1.2, section 3.2.1 (the representation graph, here without sharing).
use Rattle.std.specs.Prelude.{ℕ, ℤ, Bool, List, [], ◌∷◌}

mutual
  -- a node: the text of a real, an integer, a string, a boolean, an array, a hash, an alias by its anchor's number, null, and what
  -- couldn't be read
  pub data Tree : Type 0 where
    real : List ℕ → Tree
    integer : ℤ → Tree
    string : List ℕ → Tree
    boolean : Bool → Tree
    array : Items → Tree
    hash : Pairs → Tree
    alias : ℕ → Tree
    null : Tree
    bad_value : Tree

  -- the items of an array, in order
  pub data Items : Type 0 where
    no_items : Items
    item : Tree → Items → Items

  -- the pairs of a hash, in order: a key and its value
  pub data Pairs : Type 0 where
    no_pairs : Pairs
    pair : Tree → Tree → Pairs → Pairs

-- a list as items
abbrev pub items_of : List Tree → Items
items_of [] = no_items
items_of (t ∷ ts) = item t (items_of ts)

-- a list as pairs
abbrev pub pairs_of : List (Tree × Tree) → Pairs
pairs_of [] = no_pairs
pairs_of (p ∷ ps) = pair p.0 p.1 (pairs_of ps)

-- items as a list
abbrev pub list_of : Items → List Tree
list_of no_items = []
list_of (item t ts) = t ∷ list_of ts

-- pairs as a list
abbrev pub pair_list_of : Pairs → List (Tree × Tree)
pair_list_of no_pairs = []
pair_list_of (pair k v ps) = (k, v) ∷ pair_list_of ps
