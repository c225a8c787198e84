-- A table of marks: what it says of a tree.
use Rattle.std.specs.Prelude.{◌+◌, ◌≤◌, List, [], ◌∷◌, length, take, drop, ⊤}
use Rattle.std.specs.Coded.{×_prop, Unit-prop, le_prop}
use Rattle.defs_tree.specs.Tree.{Tree, real, integer, string, boolean, array, hash, alias, null, bad_value, Items, no_items, item, Pairs, no_pairs, pair}
use Rattle.defs_event.specs.Marks.{Marks, marks, Parts, no_parts, part}
use Rattle.yaml_loader.specs.declared.mark.Mark.{Mark}

-- the marks of the parts
abbrev pub parts_at : List Mark → Mark → List Mark
parts_at table m = take m.count (drop m.first table)

abbrev mutual
  -- the marks of a tree
  pub shown_marks : List Mark → Tree → Mark → Marks
  shown_marks table (array ts) m = marks m.own m.tree (item_marks table ts (parts_at table m))
  shown_marks table (hash ps) m = marks m.own m.tree (pairs_marks table ps (parts_at table m))
  shown_marks table t m = marks m.own m.tree no_parts

  pub item_marks : List Mark → Items → List Mark → Parts
  item_marks table no_items ms = no_parts
  item_marks table (item t ts) [] = no_parts
  item_marks table (item t ts) (m ∷ ms) = part (shown_marks table t m) (item_marks table ts ms)

  pub pairs_marks : List Mark → Pairs → List Mark → Parts
  pairs_marks table no_pairs ms = no_parts
  pairs_marks table (pair k v ps) (m ∷ n ∷ ms) = part (shown_marks table k m) (part (shown_marks table v n) (pairs_marks table ps ms))
  pairs_marks table (pair k v ps) ms = no_parts

abbrev mutual
  -- The table has marks for each part of the tree.
  pub HasMarks : List Mark → Tree → Mark → Type 0
  HasMarks table (array ts) m = (m.first + m.count ≤ length table) × ItemsHaveMarks table ts (parts_at table m)
  HasMarks table (hash ps) m = (m.first + m.count ≤ length table) × PairsHaveMarks table ps (parts_at table m)
  HasMarks table t m = ⊤

  pub ItemsHaveMarks : List Mark → Items → List Mark → Type 0
  ItemsHaveMarks table no_items [] = ⊤
  ItemsHaveMarks table (item t ts) (m ∷ ms) = HasMarks table t m × ItemsHaveMarks table ts ms
  ItemsHaveMarks table _ _ = ⊥

  pub PairsHaveMarks : List Mark → Pairs → List Mark → Type 0
  PairsHaveMarks table no_pairs [] = ⊤
  PairsHaveMarks table (pair k v ps) (m ∷ n ∷ ms) = HasMarks table k m × (HasMarks table v n × PairsHaveMarks table ps ms)
  PairsHaveMarks table _ _ = ⊥

-- ---- each of these facts has one proof

mutual
  pub HasMarks-prop : (table : List Mark) (t : Tree) (m : Mark) → IsProp (HasMarks table t m)
  HasMarks-prop table (real s) m = Unit-prop
  HasMarks-prop table (integer z) m = Unit-prop
  HasMarks-prop table (string s) m = Unit-prop
  HasMarks-prop table (boolean b) m = Unit-prop
  HasMarks-prop table (array ts) m = ×_prop le_prop (ItemsHaveMarks-prop table ts (parts_at table m))
  HasMarks-prop table (hash ps) m = ×_prop le_prop (PairsHaveMarks-prop table ps (parts_at table m))
  HasMarks-prop table (alias n) m = Unit-prop
  HasMarks-prop table null m = Unit-prop
  HasMarks-prop table bad_value m = Unit-prop

  pub ItemsHaveMarks-prop : (table : List Mark) (ts : Items) (ms : List Mark) → IsProp (ItemsHaveMarks table ts ms)
  ItemsHaveMarks-prop table no_items [] = Unit-prop
  ItemsHaveMarks-prop table no_items (m ∷ ms) = λ a b. absurd a
  ItemsHaveMarks-prop table (item t ts) [] = λ a b. absurd a
  ItemsHaveMarks-prop table (item t ts) (m ∷ ms) = ×_prop (HasMarks-prop table t m) (ItemsHaveMarks-prop table ts ms)

  pub PairsHaveMarks-prop : (table : List Mark) (ps : Pairs) (ms : List Mark) → IsProp (PairsHaveMarks table ps ms)
  PairsHaveMarks-prop table no_pairs [] = Unit-prop
  PairsHaveMarks-prop table no_pairs (m ∷ ms) = λ a b. absurd a
  PairsHaveMarks-prop table (pair k v ps) [] = λ a b. absurd a
  PairsHaveMarks-prop table (pair k v ps) (m ∷ []) = λ a b. absurd a
  PairsHaveMarks-prop table (pair k v ps) (m ∷ n ∷ ms) =
      ×_prop (HasMarks-prop table k m) (×_prop (HasMarks-prop table v n) (PairsHaveMarks-prop table ps ms))

-- ---- several trees

abbrev pub all_shown : List Mark → List Tree → List Mark → List Marks
all_shown table [] ms = []
all_shown table (t ∷ ts) [] = []
all_shown table (t ∷ ts) (m ∷ ms) = shown_marks table t m ∷ all_shown table ts ms

-- the keys and values of pairs
abbrev pub pairs_shown : List Mark → List (Tree × Tree) → List Mark → List Marks
pairs_shown table [] ms = []
pairs_shown table (p ∷ ps) (m ∷ n ∷ ms) = shown_marks table p.0 m ∷ shown_marks table p.1 n ∷ pairs_shown table ps ms
pairs_shown table (p ∷ ps) ms = []

abbrev pub AllHaveMarks : List Mark → List Tree → List Mark → Type 0
AllHaveMarks table [] [] = ⊤
AllHaveMarks table (t ∷ ts) (m ∷ ms) = HasMarks table t m × AllHaveMarks table ts ms
AllHaveMarks table _ _ = ⊥

pub AllHaveMarks-prop : (table : List Mark) (ts : List Tree) (ms : List Mark) → IsProp (AllHaveMarks table ts ms)
AllHaveMarks-prop table [] [] = Unit-prop
AllHaveMarks-prop table [] (m ∷ ms) = λ a b. absurd a
AllHaveMarks-prop table (t ∷ ts) [] = λ a b. absurd a
AllHaveMarks-prop table (t ∷ ts) (m ∷ ms) = ×_prop (HasMarks-prop table t m) (AllHaveMarks-prop table ts ms)
