-- A comparison of two lists, place by place.
use Rattle.yaml_tree.proofs.Common.{[], add-one, ap, arith, drop, drop-cons, Equal, flat, get_or, items_cmp, items_of, length, List, map, nat_cmp, nat_tests, on, Ordering, ordering_then, pairs_cmp, pairs_of, refl, slice_cmp, suc, Tree, tree_cmp, ℕ, ◌+◌, ◌<◌, ◌∷◌, ◌≡◌, ◌≤◌, ◌⊎◌}
use Rattle.defs_tree.specs.Lists.{list_cmp}

pub at_drop : {A : Type 0} (xs : List A) (i : ℕ) (x : A) → i < length xs → x ≡ get_or xs i x → drop i xs ≡ x ∷ drop (i + 1) xs
at_drop xs i x h e = rw (drop-cons xs i x h, add-one, ← e)

module _ {A : Type 0} (R : A → A → Ordering) where
  pub cmp_next : (xs ys : List A) (i : ℕ) (x y : A) → i < length xs → i < length ys → x ≡ get_or xs i x → y ≡ get_or ys i y
      → slice_cmp R (drop i xs) (drop i ys) ≡ ordering_then (R x y) (slice_cmp R (drop (i + 1) xs) (drop (i + 1) ys))
  cmp_next xs ys i x y p q e f = rw (at_drop xs i x p e, at_drop ys i y q f)

  pub cmp_end : (xs ys : List A) (i : ℕ) → i ≤ length xs → i ≤ length ys → (length xs ≤ i) ⊎ (length ys ≤ i) → slice_cmp R (drop i xs) (drop i ys) ≡ nat_cmp (length xs) (length ys)
  cmp_end (x ∷ xs) (y ∷ ys) (suc i) p q e = grind (arith, nat_tests, cmp_end xs ys i)
  cmp_end xs ys i p q e = grind (arith, nat_tests)

pub items_cmp-items_of : (xs ys : List Tree) → items_cmp (items_of xs) (items_of ys) ≡ list_cmp xs ys
items_cmp-items_of [] ys = grind arith
items_cmp-items_of (x ∷ xs) ys = grind (arith, items_cmp-items_of xs)

pub flat_cmp : (ps qs : List (Tree × Tree)) → pairs_cmp (pairs_of ps) (pairs_of qs) ≡ list_cmp (flat ps) (flat qs)
flat_cmp [] [] = refl
flat_cmp [] (q ∷ qs) = refl
flat_cmp (p ∷ ps) [] = refl
flat_cmp (p ∷ ps) (q ∷ qs) = ap (λ o. ordering_then (tree_cmp p.0 q.0) (ordering_then (tree_cmp p.1 q.1) o)) (flat_cmp ps qs)

-- through a function
pub slice_cmp-map : {A B : Type 0} (R : B → B → Ordering) (f : A → B) (xs ys : List A) → slice_cmp R (map f xs) (map f ys) ≡ slice_cmp (on f R) xs ys
slice_cmp-map R f [] ys = grind arith
slice_cmp-map R f (x ∷ xs) ys = grind (arith, slice_cmp-map R f xs)

-- an answer that is not `Equal` ends the comparison
pub stops : (o r p q : Ordering) → (o ≡ Equal → ⊥) → o ≡ r → q ≡ ordering_then r p → o ≡ q
stops a r p q n e f = grind arith
