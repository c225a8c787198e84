-- Nodes in a row, as the trees that clauses see.
use Rattle.std.proofs.lemmas.List.{map-append}
use Rattle.yaml_tree.proofs.Common.{[], ap, arith, hash, integer, items_of, items_view, length, length-map, List, list_of, lookup, nat_tests, option_map, pair_list_of, pairs_of, pos, refl, slice_get, Tree, value_at_index, view, Yaml, ℕ, ◌++◌, ◌<◌, ◌^◌, ◌∙◌, ◌∷◌, ◌≡◌}

pub length_items_view : (ys : List Yaml) → length (items_view ys) ≡ length ys
length_items_view ys = length-map ys view

pub items_view_push : (ys zs : List Yaml) (y : Yaml) → zs ≡ ys ++ y ∷ [] → items_view zs ≡ items_view ys ++ view y ∷ []
items_view_push ys zs y e = ap items_view e ∙ map-append view ys (y ∷ [])

pub get_items_view : (ys : List Yaml) (i : ℕ) → slice_get (items_view ys) i ≡ option_map view (slice_get ys i)
get_items_view [] i = refl
get_items_view (y ∷ ys) i = grind (arith, get_items_view ys)

pub list_of_items : (ts : List Tree) → list_of (items_of ts) ≡ ts
list_of_items [] = refl
list_of_items (t ∷ ts) = ap (λ us. t ∷ us) (list_of_items ts)

pub pair_list_of_pairs : (ps : List (Tree × Tree)) → pair_list_of (pairs_of ps) ≡ ps
pair_list_of_pairs [] = refl
pair_list_of_pairs (p ∷ ps) = ap (λ us. p ∷ us) (pair_list_of_pairs ps)

-- the value at an index of a hash
pub at_number : (i : ℕ) (ps : List (Tree × Tree)) → i < 2 ^ 63 → value_at_index i (hash (pairs_of ps)) ≡ lookup (integer (pos i)) ps
at_number i ps h = grind (arith, nat_tests, pair_list_of_pairs ps)
