-- Laws of merge keys: each is the contract of the function of `src/laws.rt` that its comment names.
use Rattle.std.specs.Prelude.{◌≡◌, ◌≢◌, List, ◌++◌, Option, Some, None}
use Rattle.std.specs.Option.{option_or}
use Rattle.defs_tree.specs.Tree.{Tree, array, hash, Items, no_items, item, pair_list_of}
use Rattle.defs_tree.specs.Pairs.{lookup, without}
use Rattle.defs_tree.specs.Valid.{IsDistinct}
use Rattle.defs_tree.specs.Merge.{merge_key, merged_pairs, merged, LacksMergeKeys}
use Rattle.defs_tree.specs.MergeFault.{any_node, first_fault}

-- the value at a key in the first mapping among items that has it
abbrev pub value_among : Tree → Items → Option Tree
value_among k no_items = None
value_among k (item (hash ps) ts) = option_or (lookup k (pair_list_of ps)) (value_among k ts)
value_among k (item t ts) = value_among k ts

-- in what the value of a merge key brings
abbrev pub value_brought : Tree → Option Tree → Option Tree
value_brought k (Some (hash ps)) = lookup k (pair_list_of ps)
value_brought k (Some (array ts)) = value_among k ts
value_brought k o = None

-- `merge_finds_the_first`
abbrev pub MergeFindsTheFirst : Type 0
MergeFindsTheFirst = (k : Tree) (ps : List (Tree × Tree)) → k ≢ merge_key → lookup k (merged_pairs ps) ≡ option_or (lookup k ps) (value_brought k (lookup merge_key ps))

-- `own_pairs_come_first`
abbrev pub OwnPairsComeFirst : Type 0
OwnPairsComeFirst = (ps : List (Tree × Tree)) → (after : List (Tree × Tree)) × (merged_pairs ps ≡ without merge_key ps ++ after)

-- `merge_keeps_keys_distinct`
abbrev pub MergeKeepsKeysDistinct : Type 0
MergeKeepsKeysDistinct = (t : Tree) → IsDistinct t → IsDistinct (merged t)

-- `no_merge_key_is_left`
abbrev pub NoMergeKeyIsLeft : Type 0
NoMergeKeyIsLeft = (t : Tree) → IsDistinct t → LacksMergeKeys (merged t)

-- `trees_without_merge_keys_stay`
abbrev pub TreesWithoutMergeKeysStay : Type 0
TreesWithoutMergeKeysStay = (t : Tree) → LacksMergeKeys t → merged t ≡ t

-- `trees_without_merge_keys_have_no_fault`
abbrev pub TreesWithoutMergeKeysHaveNoFault : Type 0
TreesWithoutMergeKeysHaveNoFault = (t : Tree) → LacksMergeKeys t → first_fault any_node t ≡ None
