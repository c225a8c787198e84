-- A hash as the list of its pairs, in the order of insertion.
-- YAML 1.2, section 3.2.1.1 (mapping nodes: unordered pairs with distinct keys); the order is ours.
use Rattle.std.specs.Prelude.{◌≢◌, ℕ, zero, suc, cond, Bool, List, [], ◌∷◌, ◌++◌, Option, Some, None, option_map, is_some}
use Rattle.defs_tree.specs.Tree.{Tree}
use Rattle.defs_tree.specs.Order.{tree_eq}

-- the value at a key
abbrev pub lookup : Tree → List (Tree × Tree) → Option Tree
lookup k [] = None
lookup k (p ∷ ps) = cond (tree_eq k p.0) (Some p.1) (lookup k ps)

-- whether the key is there
abbrev pub has_key : Tree → List (Tree × Tree) → Bool
has_key k ps = is_some (lookup k ps)

-- the list without the key's pair
abbrev pub without : Tree → List (Tree × Tree) → List (Tree × Tree)
without k [] = []
without k (p ∷ ps) = cond (tree_eq k p.0) ps (p ∷ without k ps)

-- the list without the key's old pair, followed by the new pair
abbrev pub insert : Tree → Tree → List (Tree × Tree) → List (Tree × Tree)
insert k v ps = without k ps ++ (k, v) ∷ []

-- the place of the key's pair, counted from 0
abbrev pub place_of : Tree → List (Tree × Tree) → Option ℕ
place_of k [] = None
place_of k (p ∷ ps) = cond (tree_eq k p.0) (Some 0) (option_map suc (place_of k ps))

-- the value at a place
abbrev pub value_at : ℕ → List (Tree × Tree) → Option Tree
value_at i [] = None
value_at zero (p ∷ ps) = Some p.1
value_at (suc i) (p ∷ ps) = value_at i ps

-- the list with another value at a place
abbrev pub with_value_at : ℕ → Tree → List (Tree × Tree) → List (Tree × Tree)
with_value_at i t [] = []
with_value_at zero t (p ∷ ps) = (p.0, t) ∷ ps
with_value_at (suc i) t (p ∷ ps) = p ∷ with_value_at i t ps

-- the list with another value at a key
abbrev pub with_value : Tree → Tree → List (Tree × Tree) → List (Tree × Tree)
with_value k t [] = []
with_value k t (p ∷ ps) = cond (tree_eq k p.0) ((p.0, t) ∷ ps) (p ∷ with_value k t ps)

-- the last pair
abbrev pub last_of : List (Tree × Tree) → Option (Tree × Tree)
last_of [] = None
last_of (p ∷ []) = Some p
last_of (p ∷ q ∷ ps) = last_of (q ∷ ps)

-- no pair has this key
abbrev pub Lacks : Tree → List (Tree × Tree) → Type 0
Lacks k [] = Unit {0}
Lacks k (p ∷ ps) = (k ≢ p.0) × Lacks k ps

-- no two pairs have the same key
abbrev pub AreDistinct : List (Tree × Tree) → Type 0
AreDistinct [] = Unit {0}
AreDistinct (p ∷ ps) = Lacks p.0 ps × AreDistinct ps
