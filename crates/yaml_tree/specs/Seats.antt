-- What a row and its places are ready for, before a pair is put at the row's end.
use Rattle.std.specs.Prelude.{◌≡◌, ℕ, ◌+◌, ◌*◌, ◌<◌, List, [], ◌∷◌, ◌++◌, Some, None, length, get_or}
use Rattle.std.specs.List.{remove}
use Rattle.defs_tree.specs.Pairs.{insert, lookup}
use Rattle.yaml_tree.specs.Places.{IsIndexed}
use Rattle.yaml_tree.specs.View.{view, items_view, pairs_view}
use Rattle.yaml_tree.specs.declared.ranks.Kept.{Kept}
use Rattle.yaml_tree.specs.declared.yaml.Yaml.{Yaml}

-- A row has become another, with these places, as the pair was inserted.
pub record IsInserted (old new : List Yaml) (key value : Yaml) (kept : Kept) : Type 0 where
  pub indexed : IsIndexed (items_view new) kept
  pub pairs : pairs_view new ≡ insert (view key) (view value) (pairs_view old)

-- The key is new, and the places have its own: the pair belongs at the end.
pub record IsReady (row : List Yaml) (key : Yaml) (kept : Kept) : Type 0 where
  pub away : lookup (view key) (pairs_view row) ≡ None
  pub inserted : (value : Yaml) → IsInserted row (row ++ key ∷ value ∷ []) key value kept

-- The key's pair stands at this place, and the places are those after it has gone: the new pair belongs at the end.
pub record IsReadyWithout (row : List Yaml) (p : ℕ) (key : Yaml) (kept : Kept) : Type 0 where
  pub inside : 2 * p + 1 < length row
  pub value : (x : Yaml) → x ≡ get_or row (2 * p + 1) x → Some (view x) ≡ lookup (view key) (pairs_view row)
  pub inserted : (value : Yaml) → IsInserted row (remove (remove row (2 * p)) (2 * p) ++ key ∷ value ∷ []) key value kept
