-- Where a node and its parts begin in the text that they were read from. YAML 1.2, section 3.1.1 (a serialization has its nodes in
-- the order of the text) and section 7.1 (aliases).
use Rattle.std.specs.Prelude.{ℕ, cond, List, [], ◌∷◌, Option, Some, None, option_map, option_and_then, slice_get}
use Rattle.defs_text.specs.Position.{Position}
use Rattle.defs_tree.specs.Tree.{Tree, string, array, hash, list_of, pair_list_of}
use Rattle.defs_tree.specs.Order.{tree_eq}

mutual
  -- The marks of a node: where it begins, and where its tree begins. These differ only for an alias, which stands at a position of its own
  -- and whose tree is a copy of a tree elsewhere. Then the marks of the tree's parts: of an array the items, of a hash each key and then its value.
  pub data Marks : Type 0 where
    marks : (own : Position) → (tree : Position) → Parts → Marks

  pub data Parts : Type 0 where
    no_parts : Parts
    part : Marks → Parts → Parts

-- a list as parts
abbrev pub parts_of : List Marks → Parts
parts_of [] = no_parts
parts_of (m ∷ ms) = part m (parts_of ms)

-- parts as a list
abbrev pub list_of_parts : Parts → List Marks
list_of_parts no_parts = []
list_of_parts (part m ms) = m ∷ list_of_parts ms

-- where the node begins
abbrev pub own_position : Marks → Position
own_position (marks own tree ps) = own

-- where its tree begins
abbrev pub tree_position : Marks → Position
tree_position (marks own tree ps) = tree

-- the marks of its parts
abbrev pub parts_in : Marks → List Marks
parts_in (marks own tree ps) = list_of_parts ps

-- a node without parts
abbrev pub leaf : Position → Marks
leaf p = marks p p no_parts

-- ---- the parts of a node, each with its marks

-- trees, each beside its marks
abbrev pub beside : List Tree → List Marks → List (Tree × Marks)
beside [] ms = []
beside (t ∷ ts) [] = []
beside (t ∷ ts) (m ∷ ms) = (t, m) ∷ beside ts ms

-- pairs, each key and each value beside its marks
abbrev pub pairs_beside : List (Tree × Tree) → List Marks → List ((Tree × Marks) × (Tree × Marks))
pairs_beside [] ms = []
pairs_beside (p ∷ ps) (m ∷ n ∷ ms) = ((p.0, m), (p.1, n)) ∷ pairs_beside ps ms
pairs_beside (p ∷ ps) ms = []

-- the items of an array
abbrev pub marked_items : Tree → Marks → Option (List (Tree × Marks))
marked_items (array ts) m = Some (beside (list_of ts) (parts_in m))
marked_items t m = None

-- the pairs of a hash
abbrev pub marked_pairs : Tree → Marks → Option (List ((Tree × Marks) × (Tree × Marks)))
marked_pairs (hash ps) m = Some (pairs_beside (pair_list_of ps) (parts_in m))
marked_pairs t m = None

-- the pair with this key
abbrev pub pair_with : Tree → List ((Tree × Marks) × (Tree × Marks)) → Option ((Tree × Marks) × (Tree × Marks))
pair_with k [] = None
pair_with k (p ∷ ps) = cond (tree_eq k p.0.0) (Some p) (pair_with k ps)

-- In a hash, the pair whose key is the string of the text.
abbrev pub pair_at_text : List ℕ → Tree → Marks → Option ((Tree × Marks) × (Tree × Marks))
pair_at_text text t m = option_and_then (pair_with (string text)) (marked_pairs t m)

-- In a hash, the value whose key is the string of the text.
abbrev pub node_at_text : List ℕ → Tree → Marks → Option (Tree × Marks)
node_at_text text t m = option_map (λ p. p.1) (pair_at_text text t m)

-- In an array, the item at the place, counted from 0.
abbrev pub node_at_place : ℕ → Tree → Marks → Option (Tree × Marks)
node_at_place i t m = option_and_then (λ ns. slice_get ns i) (marked_items t m)
