-- Lists of pairs, worked.
use Rattle.defs_tree.proofs.Common.{[], bad_value, codes, insert, last_of, lookup, None, null, place_of, real, Some, value_at, with_value, with_value_at, without, ◌∷◌, ◌≡◌}
use Rattle.defs_tree.proofs.TreeWords.{text, number, list}

record Rows : Type 0 where
  insert_moves_a_key_to_the_end : insert (text "a") (number 3) ((text "a", number 1) ∷ (text "b", number 2) ∷ [])
      ≡ (text "b", number 2) ∷ (text "a", number 3) ∷ []
  insert_of_a_new_key : insert (text "c") (number 3) ((text "a", number 1) ∷ (text "b", number 2) ∷ [])
      ≡ (text "a", number 1) ∷ (text "b", number 2) ∷ (text "c", number 3) ∷ []
  insert_of_the_last_key : insert (text "b") (number 3) ((text "a", number 1) ∷ (text "b", number 2) ∷ [])
      ≡ (text "a", number 1) ∷ (text "b", number 3) ∷ []
  insert_into_nothing : insert (text "a") (number 1) [] ≡ (text "a", number 1) ∷ []
  lookup_of_a_key : lookup (text "b") ((text "a", number 1) ∷ (text "b", number 2) ∷ []) ≡ Some (number 2)
  lookup_of_no_key : lookup (text "c") ((text "a", number 1) ∷ (text "b", number 2) ∷ []) ≡ None
  a_real_is_another_key_than_its_string : lookup (real (codes "a")) ((text "a", number 1) ∷ (text "b", number 2) ∷ []) ≡ None
  an_array_as_key : lookup (list (number 1 ∷ [])) ((list (number 2 ∷ []), number 3) ∷ (list (number 1 ∷ []), number 4) ∷ [])
      ≡ Some (number 4)
  a_bad_value_as_key : lookup bad_value ((null, number 3) ∷ (bad_value, number 4) ∷ []) ≡ Some (number 4)
  without_a_key : without (text "a") ((text "a", number 1) ∷ (text "b", number 2) ∷ []) ≡ (text "b", number 2) ∷ []
  without_no_key : without (text "c") ((text "a", number 1) ∷ (text "b", number 2) ∷ []) ≡ (text "a", number 1) ∷ (text "b", number 2) ∷ []
  place_of_a_key : place_of (text "b") ((text "a", number 1) ∷ (text "b", number 2) ∷ []) ≡ Some 1
  place_of_no_key : place_of (text "c") ((text "a", number 1) ∷ (text "b", number 2) ∷ []) ≡ None
  value_at_a_place : value_at 1 ((text "a", number 1) ∷ (text "b", number 2) ∷ []) ≡ Some (number 2)
  value_at_no_place : value_at 2 ((text "a", number 1) ∷ (text "b", number 2) ∷ []) ≡ None
  with_a_value_at_a_place : with_value_at 0 null ((text "a", number 1) ∷ (text "b", number 2) ∷ [])
      ≡ (text "a", null) ∷ (text "b", number 2) ∷ []
  with_a_value_at_a_key : with_value (text "b") null ((text "a", number 1) ∷ (text "b", number 2) ∷ [])
      ≡ (text "a", number 1) ∷ (text "b", null) ∷ []
  last_pair : last_of ((text "a", number 1) ∷ (text "b", number 2) ∷ []) ≡ Some (text "b", number 2)
  no_last_pair : last_of [] ≡ None

rows : Rows
rows = search
