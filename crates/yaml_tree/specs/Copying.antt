-- Trees of which some parts are copied.
use Rattle.std.specs.Prelude.{◌≡◌, ℕ, ◌+◌, List, [], ◌∷◌, ◌++◌}
use Rattle.defs_tree.specs.Tree.{Tree, items_of}
use Rattle.yaml_tree.specs.View.{view, items_view, array_tree, hash_tree}
use Rattle.yaml_tree.specs.Weight.{items_nodes, parts}
use Rattle.yaml_tree.specs.declared.copy.Source.{Source}
use Rattle.yaml_tree.specs.declared.copy.Source.TheVariants.{Items, Pairs}
use Rattle.yaml_tree.specs.declared.copy.Begun.{Begun}
use Rattle.yaml_tree.specs.declared.copy.Begun.TheVariants.{Scalar, Collection}
use Rattle.yaml_tree.specs.declared.copy.Level.{Level}

-- the tree of an array or a hash
abbrev pub source_tree : Source → Tree
source_tree (Items a) = array_tree a.now
source_tree (Pairs h) = hash_tree h.now

-- the tree of what was copied, or is to be
abbrev pub begun_tree : Begun → Tree
begun_tree (Scalar y) = view y
begun_tree (Collection s) = source_tree s

-- how many nodes are left to be copied, without those of an array or hash that is being copied
abbrev pub left : Level → ℕ
left l = items_nodes (items_of (items_view l.rest.now))

-- in several levels
abbrev pub lefts : List Level → ℕ
lefts [] = 0
lefts (l ∷ ls) = left l + lefts ls

-- with these trees between what is copied and what is left, the level has all its parts
abbrev pub IsFilled : Level → List Tree → Type 0
IsFilled l ts = items_view l.copied.items ++ (ts ++ items_view l.rest.now) ≡ parts (source_tree l.source)

-- from the outermost level to the tree that the last of them awaits: each is a part of the one around it
abbrev pub Leads : Tree → List Level → Tree → Type 0
Leads t [] u = t ≡ u
Leads t (l ∷ ls) u = (source_tree l.source ≡ t) × ((v : Tree) × (IsFilled l (v ∷ []) × Leads v ls u))
