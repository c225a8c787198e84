-- The first node of a tree that is to be merged and is no mapping, in the order of the text: an array and a hash come before what stands in them.
use Rattle.std.specs.Prelude.{ℕ, ◌+◌, if◌then◌else◌, Option, Some, None, option_map, List, [], ◌∷◌}
use Rattle.std.specs.Option.{option_or}
use Rattle.defs_tree.specs.Tree.{Tree, string, array, hash, Items, no_items, item, Pairs, no_pairs, pair}
use Rattle.defs_tree.specs.Order.{tree_eq}
use Rattle.defs_tree.specs.Path.{Step, index, key}
use Rattle.defs_tree.specs.Merge.{merge_key}

-- what may stand in a place: any node; a mapping; a mapping or a sequence of mappings
pub data Wanted : Type 0 where
  any_node : Wanted
  a_mapping : Wanted
  mappings : Wanted

-- as the value of this key
abbrev pub wanted_at : Tree → Wanted
wanted_at k = if tree_eq merge_key k then mappings else any_node

-- The step to the value of a pair: by its key if that is a string, or else by the pair's place, counted from 0.
abbrev pub step_to : ℕ → Tree → Step
step_to n (string s) = key s
step_to n k = index n

-- the path to the node itself
abbrev pub here : Option (List Step)
here = Some []

-- the same path, seen from a step further up
abbrev pub below : Step → Option (List Step) → Option (List Step)
below s o = option_map (λ p. s ∷ p) o

abbrev mutual
  -- the steps to it from a node where that is wanted
  pub first_fault : Wanted → Tree → Option (List Step)
  first_fault w (hash ps) = first_pair_fault 0 ps
  first_fault any_node (array ts) = first_item_fault any_node 0 ts
  first_fault mappings (array ts) = first_item_fault a_mapping 0 ts
  first_fault any_node t = None
  first_fault w t = here

  -- from the items, the first of which stands at this place
  pub first_item_fault : Wanted → ℕ → Items → Option (List Step)
  first_item_fault w n no_items = None
  first_item_fault w n (item t ts) = option_or (below (index n) (first_fault w t)) (first_item_fault w (n + 1) ts)

  -- from the pairs
  pub first_pair_fault : ℕ → Pairs → Option (List Step)
  first_pair_fault n no_pairs = None
  first_pair_fault n (pair k v ps) = option_or (below (step_to n k) (first_fault (wanted_at k) v)) (first_pair_fault (n + 1) ps)
