-- A value within a node, and the array or hash that holds it.
use Rattle.yaml_tree.proofs.Common.{[], ap, arith, Array, Bool, false, get_or, Hash, integer, is_array, is_hash, IsSome, items_view, List, lookup, not, pos, slice_get, Some, string, suc, T, Tree, true, value_at_index, value_at_text, view, Yaml, zero, ℕ, ◌<◌, ◌^◌, ◌∙◌, ◌∷◌, ◌≡◌}
use Rattle.yaml_tree.proofs.ItemsLemmas.{list_of_items, pair_list_of_pairs, at_number}

-- the item that was found at a place
pub item_there : (ys : List Yaml) (i : ℕ) (y : Yaml) → y ≡ get_or ys i y → IsSome (slice_get (items_view ys) i) → Some (view y) ≡ slice_get (items_view ys) i
item_there [] i y e h = cc
item_there (x ∷ xs) zero y e h = ap (λ n. Some (view n)) e
item_there (x ∷ xs) (suc i) y e h = item_there xs i y e h

-- ---- a value at a text: the node is a hash

pub text_in_hash : (text : List ℕ) (y : Yaml) → IsSome (value_at_text text (view y)) → is_hash (view y) ≡ true
text_in_hash a b h = grind arith

pub text_value : (text : List ℕ) (y : Yaml) (ps : List (Tree × Tree)) → y ≡ Hash ps → value_at_text text (view y) ≡ lookup (string text) ps
text_value text y ps e = ap (λ n. value_at_text text (view n)) e ∙ ap (lookup (string text)) (pair_list_of_pairs ps)

-- ---- a value at an index: the node is an array or a hash

pub index_in_array : (i : ℕ) (y : Yaml) → IsSome (value_at_index i (view y)) → is_hash (view y) ≡ false → is_array (view y) ≡ true
index_in_array i a h e = grind arith

pub item_value : (i : ℕ) (y : Yaml) (ts : List Tree) → y ≡ Array ts → value_at_index i (view y) ≡ slice_get ts i
item_value i y ts e = ap (λ n. value_at_index i (view n)) e ∙ ap (λ us. slice_get us i) (list_of_items ts)

pub number_fits : (i : ℕ) (y : Yaml) (ps : List (Tree × Tree)) → y ≡ Hash ps → IsSome (value_at_index i (view y)) → i < 2 ^ 63
number_fits i y ps e h = grind arith

pub number_value : (i : ℕ) (y : Yaml) (ps : List (Tree × Tree)) → y ≡ Hash ps → i < 2 ^ 63 → value_at_index i (view y) ≡ lookup (integer (pos i)) ps
number_value i y ps e fits = ap (λ n. value_at_index i (view n)) e ∙ at_number i ps fits

-- ---- a test that was made

pub held : (b c : Bool) → b ≡ c → T b → c ≡ true
held a c e h = grind arith

pub failed : (b c : Bool) → b ≡ c → T (not b) → c ≡ false
failed a c e h = grind arith
