-- Where a key's pair stands in a list of pairs, and what that says of the list.
use Rattle.yaml_tree.proofs.Common.{[], ap, arith, IsSome, key_at, last_of, length, List, lookup, option_map, place_of, remove, Some, suc, Tree, value_at, without, zero, ℕ, ◌∙◌, ◌∷◌, ◌≡◌}

-- taking out what stands at the key's place takes out the key's pair
pub remove_placed : (k : Tree) (us : List (Tree × Tree)) (i : ℕ) → Some i ≡ place_of k us → remove us i ≡ without k us
remove_placed k [] i e = cc
remove_placed k (u ∷ us) i e = grind (arith, remove_placed k us)

pub last_pair : (us : List (Tree × Tree)) (n : ℕ) (k v : Tree) → length us ≡ suc n → k ≡ key_at us n → Some v ≡ value_at n us → Some (k, v) ≡ last_of us
last_pair (u ∷ []) zero k v h d e = ap (option_map (λ x. (k, x))) e ∙ ap (λ t. Some (t, u.1)) d
last_pair (u ∷ w ∷ us) (suc n) k v h d e = last_pair (w ∷ us) n k v (omega arith) d e
last_pair us n k v h d e = absurd (omega arith)

-- a key with a value has a place
pub place_somewhere : (k : Tree) (us : List (Tree × Tree)) → IsSome (lookup k us) → IsSome (place_of k us)
place_somewhere k [] h = h
place_somewhere k (u ∷ us) h = grind (arith, place_somewhere k us)
