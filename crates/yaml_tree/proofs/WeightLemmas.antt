-- What is left of a tree that is taken apart grows less.
use Rattle.yaml_tree.proofs.Common.{[], ap, arith, array, chain, flat, hash, item, Items, items_chain, items_nodes, items_of, items_with_last, List, list_of, no_items, no_pairs, nodes, pair, pair_list_of, pairs_chain, pairs_nodes, parts, refl, suc, sym, Tree, weight, with_last, ℕ, ◌++◌, ◌+◌, ◌<◌, ◌∷◌, ◌≡◌, ◌≢◌, ◌≤◌}
use Rattle.defs_tree.specs.Tree.{Pairs}

-- ---- nodes and chains

mutual
  pub chain_below : (t : Tree) → chain t < nodes t
  chain_below (array ts) = omega (arith, items_chain_below ts)
  chain_below (hash ps) = omega (arith, pairs_chain_below ps)
  chain_below t = omega arith

  items_chain_below : (ts : Items) → items_chain ts ≤ items_nodes ts
  items_chain_below no_items = omega arith
  items_chain_below (item t no_items) = omega (arith, chain_below t)
  items_chain_below (item t (item u us)) = omega (arith, items_chain_below (item u us))

  pairs_chain_below : (ps : Pairs) → pairs_chain ps ≤ pairs_nodes ps
  pairs_chain_below no_pairs = omega arith
  pairs_chain_below (pair k v no_pairs) = omega (arith, chain_below v)
  pairs_chain_below (pair k v (pair l w ps)) = omega (arith, pairs_chain_below (pair l w ps))

items_nodes-append : (us vs : List Tree) → items_nodes (items_of (us ++ vs)) ≡ items_nodes (items_of us) + items_nodes (items_of vs)
items_nodes-append [] vs = omega arith
items_nodes-append (u ∷ us) vs = omega (arith, items_nodes-append us vs)

items_chain-before : (us : List Tree) (t : Tree) (ts : List Tree) → items_chain (items_of (us ++ t ∷ ts)) ≡ items_chain (items_of (t ∷ ts))
items_chain-before (u ∷ v ∷ us) t ts = items_chain-before (v ∷ us) t ts
items_chain-before us t ts = refl

-- ---- a descent

-- a collection with a hole: so many nodes besides what fills it, and a chain past the hole
pub record IsAround (f : Tree → Tree) (n c : ℕ) : Type 0 where
  pub count : (t : Tree) → nodes (f t) ≡ n + nodes t
  pub past : (t : Tree) → chain (f t) ≡ c

module _ (f : Tree → Tree) (n c : ℕ) (a : IsAround f n c) where
  items_deeper : (t : Tree) (ts : Items) → (items_nodes (items_with_last f (item t ts)) ≡ n + items_nodes (item t ts)) × (items_chain (items_with_last f (item t ts)) ≡ suc c)
  items_deeper t no_items = (omega (arith, a.count t), omega (arith, a.past t))
  items_deeper t (item u no_items) = let r = items_deeper u no_items in (omega (arith, r.0), r.1)
  items_deeper t (item u (item w us)) = let r = items_deeper u (item w us) in (omega (arith, r.0), r.1)

  -- a collection around the last of some items
  pub descent : (t : Tree) (ts : Items) (o : Tree) → nodes o ≡ n + nodes (array (item t ts)) → chain o ≡ c → weight (with_last f (array (item t ts))) < weight o
  descent t ts o h i = let r = items_deeper t ts in omega (arith, r.0, r.1, chain_below o, h, i)

-- ---- arrays

pub alone : (t : Tree) → weight t < weight (array (items_of (t ∷ [])))
alone t = omega (arith, chain_below t)

pub item_gone : (us : List Tree) (t a : Tree) → weight (array (items_of (us ++ a ∷ []))) < weight (array (items_of (us ++ t ∷ a ∷ [])))
item_gone us t a =
    omega (arith, items_nodes-append us (a ∷ []), items_nodes-append us (t ∷ a ∷ []), items_chain-before us a [], items_chain-before us t (a ∷ []), chain_below t, chain_below a)

-- the parts of a node in the place of an item
pub item_descent : (us ps : List Tree) (y a : Tree) → ps ≢ [] → nodes y ≡ nodes (array (items_of ps))
    → weight (with_last (λ t. array (items_of (us ++ t ∷ a ∷ []))) (array (items_of ps))) < weight (array (items_of (us ++ y ∷ a ∷ [])))
item_descent us [] y a big e = absurd (big refl)
item_descent us (p ∷ ps) y a big e =
    descent (λ t. array (items_of (us ++ t ∷ a ∷ []))) (suc (items_nodes (items_of us) + nodes a)) (suc (chain a)) (record {
      count = λ t. omega (arith, items_nodes-append us (t ∷ a ∷ []));
      past = λ t. items_chain-before us t (a ∷ []);
    }) p (items_of ps) (array (items_of (us ++ y ∷ a ∷ []))) (omega (arith, e, items_nodes-append us (y ∷ a ∷ []))) (items_chain-before us y (a ∷ []))

-- ---- the parts of a node

flat_nodes : (ps : Pairs) → items_nodes (items_of (flat (pair_list_of ps))) ≡ pairs_nodes ps
flat_nodes no_pairs = refl
flat_nodes (pair k v ps) = omega (arith, flat_nodes ps)

flat_chain : (ps : Pairs) → items_chain (items_of (flat (pair_list_of ps))) ≡ pairs_chain ps
flat_chain no_pairs = refl
flat_chain (pair k v ps) = grind (arith, flat_chain ps)

items_again : (ts : Items) → items_of (list_of ts) ≡ ts
items_again no_items = refl
items_again (item t ts) = ap (item t) (items_again ts)

pub parts_nodes : (t : Tree) → nodes t ≡ nodes (array (items_of (parts t)))
parts_nodes (array ts) = ap (λ us. suc (items_nodes us)) (sym (items_again ts))
parts_nodes (hash ps) = ap suc (sym (flat_nodes ps))
parts_nodes t = refl

pub parts_weight : (t : Tree) → parts t ≢ [] → weight (array (items_of (parts t))) ≡ weight t
parts_weight (array ts) big = ap (λ us. weight (array us)) (items_again ts)
parts_weight (hash ps) big = omega (arith, flat_nodes ps, flat_chain ps)
parts_weight t big = absurd (big refl)

-- ---- the last of a collection

pub items_with_last-of : (f : Tree → Tree) (us : List Tree) (t : Tree) → items_of (us ++ f t ∷ []) ≡ items_with_last f (items_of (us ++ t ∷ []))
items_with_last-of f (u ∷ w ∷ us) t = ap (item u) (items_with_last-of f (w ∷ us) t)
items_with_last-of f us t = refl
