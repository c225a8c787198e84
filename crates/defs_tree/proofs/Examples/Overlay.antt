-- Trees laid over one another, worked.
use Rattle.defs_tree.proofs.Common.{bad_value, null, overlay, ◌≡◌, ◌∷◌, []}
use Rattle.defs_tree.proofs.TreeWords.{text, number, list, mapping}

record Rows : Type 0 where
  shared_hashes_are_laid_over_one_another : overlay
      (mapping ((text "a", number 1) ∷ (text "b", mapping ((text "c", number 2) ∷ [])) ∷ []))
      (mapping ((text "b", mapping ((text "d", number 3) ∷ [])) ∷ (text "e", number 4) ∷ []))
      ≡ mapping ((text "a", number 1) ∷ (text "b", mapping ((text "c", number 2) ∷ (text "d", number 3) ∷ [])) ∷ (text "e", number 4) ∷ [])
  null_over_a_hash : overlay (mapping ((text "a", number 1) ∷ [])) null ≡ null
  array_over_an_array : overlay (list (number 1 ∷ [])) (list (number 2 ∷ [])) ≡ list (number 2 ∷ [])
  order_of_the_left : overlay (mapping ((text "a", number 1) ∷ (text "b", number 2) ∷ []))
      (mapping ((text "b", number 3) ∷ (text "a", null) ∷ []))
      ≡ mapping ((text "a", null) ∷ (text "b", number 3) ∷ [])
  arrays_as_keys : overlay (mapping ((list (number 1 ∷ []), text "x") ∷ []))
      (mapping ((list (number 1 ∷ []), text "y") ∷ (number 2, text "z") ∷ []))
      ≡ mapping ((list (number 1 ∷ []), text "y") ∷ (number 2, text "z") ∷ [])
  hash_over_a_scalar : overlay (number 5) (mapping ((text "a", number 1) ∷ (text "b", number 2) ∷ []))
      ≡ mapping ((text "a", number 1) ∷ (text "b", number 2) ∷ [])
  empty_hash_over_a_hash : overlay (mapping ((text "a", number 1) ∷ (text "b", number 2) ∷ [])) (mapping [])
      ≡ mapping ((text "a", number 1) ∷ (text "b", number 2) ∷ [])
  hash_over_an_empty_hash : overlay (mapping []) (mapping ((text "a", number 1) ∷ (text "b", number 2) ∷ []))
      ≡ mapping ((text "a", number 1) ∷ (text "b", number 2) ∷ [])
  scalar_over_a_hash_below : overlay (mapping ((text "a", mapping ((text "b", number 1) ∷ [])) ∷ [])) (mapping ((text "a", number 2) ∷ []))
      ≡ mapping ((text "a", number 2) ∷ [])
  hash_over_a_scalar_below : overlay (mapping ((text "a", number 2) ∷ [])) (mapping ((text "a", mapping ((text "b", number 1) ∷ [])) ∷ []))
      ≡ mapping ((text "a", mapping ((text "b", number 1) ∷ [])) ∷ [])
  three_levels : overlay (mapping ((text "a", mapping ((text "b", mapping ((text "c", number 1) ∷ [])) ∷ [])) ∷ []))
      (mapping ((text "a", mapping ((text "b", mapping ((text "d", number 2) ∷ [])) ∷ [])) ∷ []))
      ≡ mapping ((text "a", mapping ((text "b", mapping ((text "c", number 1) ∷ (text "d", number 2) ∷ [])) ∷ [])) ∷ [])
  bad_value_over_a_hash : overlay (mapping ((text "a", number 1) ∷ (text "b", number 2) ∷ [])) bad_value ≡ bad_value

rows : Rows
rows = search
