-- Merge keys: the value of a key `<<` is a mapping, or a sequence of mappings, whose pairs are put into the mapping that has the key.
-- The merge key of YAML 1.1 (yaml.org/type/merge.html). YAML 1.2 leaves it out. Aliases are read before, so the mappings stand there in full.
use Rattle.std.specs.Prelude.{if◌then◌else◌, List, [], ◌∷◌, ◌++◌, Option, Some, codes}
use Rattle.defs_tree.specs.Tree.{Tree, string, array, hash, Items, no_items, item, Pairs, no_pairs, pair, items_of, pairs_of, pair_list_of}
use Rattle.defs_tree.specs.Pairs.{lookup, has_key, without, Lacks}

abbrev pub merge_key : Tree
merge_key = string (codes "<<")

-- one more pair at the end, unless its key is there already
abbrev pub with_new_pair : List (Tree × Tree) → Tree × Tree → List (Tree × Tree)
with_new_pair ps p = if has_key p.0 ps then ps else ps ++ p ∷ []

-- each of the second pairs in turn
abbrev pub with_new_pairs : List (Tree × Tree) → List (Tree × Tree) → List (Tree × Tree)
with_new_pairs ps [] = ps
with_new_pairs ps (q ∷ qs) = with_new_pairs (with_new_pair ps q) qs

-- the pairs of all mappings among items
abbrev pub pairs_of_mappings : Items → List (Tree × Tree)
pairs_of_mappings no_items = []
pairs_of_mappings (item (hash ps) ts) = pair_list_of ps ++ pairs_of_mappings ts
pairs_of_mappings (item t ts) = pairs_of_mappings ts

-- what the value of a merge key brings: the pairs of a mapping, or those of all mappings of a sequence, an earlier mapping's first
abbrev pub brought : Option Tree → List (Tree × Tree)
brought (Some (hash ps)) = pair_list_of ps
brought (Some (array ts)) = pairs_of_mappings ts
brought o = []

-- The pairs of a mapping whose merge key was carried out: its other pairs, and then what the value brings of new keys. So its own keys
-- override all, and an earlier mapping overrides a later one.
abbrev pub merged_pairs : List (Tree × Tree) → List (Tree × Tree)
merged_pairs ps = with_new_pairs (without merge_key ps) (brought (lookup merge_key ps))

abbrev mutual
  -- A tree in which all merge keys were carried out, those of inner mappings before those of outer ones. Keys stay as they are.
  pub merged : Tree → Tree
  merged (array ts) = array (items_of (merged_items ts))
  merged (hash ps) = hash (pairs_of (merged_pairs (merged_values ps)))
  merged t = t

  pub merged_items : Items → List Tree
  merged_items no_items = []
  merged_items (item t ts) = merged t ∷ merged_items ts

  pub merged_values : Pairs → List (Tree × Tree)
  merged_values no_pairs = []
  merged_values (pair k v ps) = (k, merged v) ∷ merged_values ps

abbrev mutual
  -- no mapping in the tree has a merge key; keys are not looked into
  pub LacksMergeKeys : Tree → Type 0
  LacksMergeKeys (array ts) = AllLackMergeKeys ts
  LacksMergeKeys (hash ps) = Lacks merge_key (pair_list_of ps) × ValuesLackMergeKeys ps
  LacksMergeKeys t = Unit {0}

  pub AllLackMergeKeys : Items → Type 0
  AllLackMergeKeys no_items = Unit {0}
  AllLackMergeKeys (item t ts) = LacksMergeKeys t × AllLackMergeKeys ts

  pub ValuesLackMergeKeys : Pairs → Type 0
  ValuesLackMergeKeys no_pairs = Unit {0}
  ValuesLackMergeKeys (pair k v ps) = LacksMergeKeys v × ValuesLackMergeKeys ps
