-- Merges, worked.
use Rattle.defs_tree.proofs.Common.{[], any_node, codes, first_fault, index, key, merge_key, merged, None, null, real, Some, Tree, ◌∷◌, ◌≡◌}
use Rattle.defs_tree.proofs.TreeWords.{text, number, list, mapping}

-- ---- keys

abbrev a : Tree
a = text "a"

abbrev b : Tree
b = text "b"

abbrev c : Tree
c = text "c"

record Rows : Type 0 where
  -- ---- trees
  a_mapping_is_merged : merged (mapping ((merge_key, mapping ((a, number 1) ∷ [])) ∷ (b, number 2) ∷ []))
      ≡ mapping ((b, number 2) ∷ (a, number 1) ∷ [])
  own_keys_override : merged (mapping ((merge_key, mapping ((a, number 1) ∷ [])) ∷ (a, null) ∷ [])) ≡ mapping ((a, null) ∷ [])
  earlier_mappings_override : merged
      (mapping ((merge_key, list (mapping ((a, number 1) ∷ []) ∷ mapping ((b, number 2) ∷ (a, number 3) ∷ []) ∷ [])) ∷ []))
      ≡ mapping ((a, number 1) ∷ (b, number 2) ∷ [])
  inner_merges_come_first : merged
      (mapping ((merge_key, mapping ((merge_key, mapping ((a, number 1) ∷ [])) ∷ (b, number 2) ∷ [])) ∷ (c, number 3) ∷ []))
      ≡ mapping ((c, number 3) ∷ (b, number 2) ∷ (a, number 1) ∷ [])
  a_value_is_not_merged_with_a_value : merged
      (mapping ((merge_key, mapping ((a, mapping ((b, number 1) ∷ [])) ∷ [])) ∷ (a, mapping ((c, number 2) ∷ [])) ∷ []))
      ≡ mapping ((a, mapping ((c, number 2) ∷ [])) ∷ [])
  in_a_value : merged (mapping ((b, mapping ((merge_key, mapping ((a, number 1) ∷ [])) ∷ [])) ∷ []))
      ≡ mapping ((b, mapping ((a, number 1) ∷ [])) ∷ [])
  in_an_item : merged (list (mapping ((merge_key, mapping ((a, number 1) ∷ [])) ∷ []) ∷ [])) ≡ list (mapping ((a, number 1) ∷ []) ∷ [])
  not_in_a_key : merged (mapping ((mapping ((merge_key, mapping ((a, number 1) ∷ [])) ∷ []), number 2) ∷ []))
      ≡ mapping ((mapping ((merge_key, mapping ((a, number 1) ∷ [])) ∷ []), number 2) ∷ [])
  an_empty_mapping : merged (mapping ((merge_key, mapping []) ∷ [])) ≡ mapping []
  no_mappings : merged (mapping ((merge_key, list []) ∷ (a, number 1) ∷ [])) ≡ mapping ((a, number 1) ∷ [])
  no_merge_key : merged (mapping ((real (codes "<<"), mapping ((a, number 1) ∷ [])) ∷ []))
      ≡ mapping ((real (codes "<<"), mapping ((a, number 1) ∷ [])) ∷ [])
  -- ---- faults
  scalar : first_fault any_node (mapping ((a, mapping ((merge_key, number 5) ∷ [])) ∷ [])) ≡ Some (key (codes "a") ∷ key (codes "<<") ∷ [])
  null_to_merge : first_fault any_node (mapping ((merge_key, null) ∷ [])) ≡ Some (key (codes "<<") ∷ [])
  scalar_among_mappings : first_fault any_node (mapping ((merge_key, list (mapping [] ∷ number 3 ∷ [])) ∷ []))
      ≡ Some (key (codes "<<") ∷ index 1 ∷ [])
  sequence_among_mappings : first_fault any_node (mapping ((merge_key, list (list [] ∷ [])) ∷ [])) ≡ Some (key (codes "<<") ∷ index 0 ∷ [])
  in_the_order_of_the_text : first_fault any_node (mapping ((merge_key, list (mapping ((merge_key, number 1) ∷ []) ∷ number 2 ∷ [])) ∷ []))
      ≡ Some (key (codes "<<") ∷ index 0 ∷ key (codes "<<") ∷ [])
  below_a_key_that_is_no_string : first_fault any_node (mapping ((a, null) ∷ (number 7, mapping ((merge_key, null) ∷ [])) ∷ []))
      ≡ Some (index 1 ∷ key (codes "<<") ∷ [])
  nothing_to_merge : first_fault any_node (list (number 1 ∷ list [] ∷ mapping ((a, null) ∷ []) ∷ [])) ≡ None
  only_mappings : first_fault any_node (mapping ((merge_key, list (mapping ((a, number 1) ∷ []) ∷ mapping [] ∷ [])) ∷ [])) ≡ None

rows : Rows
rows = search
