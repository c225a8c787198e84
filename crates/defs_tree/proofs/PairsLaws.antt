-- What inserting does to a list of pairs.
use Rattle.defs_tree.proofs.Common.{[], ap, AreDistinct, cond, false, false_from_ne_true, filter, insert, Lacks, List, lookup, None, not, refl, Some, sym, Tree, tree_eq, true, without, ◌++◌, ◌∙◌, ◌∷◌, ◌≡◌, ◌≢◌, arith}
use Rattle.defs_tree.proofs.OrderLaws.{tree_eq_decides}

pub tree_eq-itself : (t : Tree) → tree_eq t t ≡ true
tree_eq-itself t = (tree_eq_decides t t).1 refl

pub tree_eq-other : (t u : Tree) → t ≢ u → tree_eq t u ≡ false
tree_eq-other t u n = false_from_ne_true (tree_eq t u) (λ e. n ((tree_eq_decides t u).0 e))

pub Lacks-without : (k l : Tree) (ps : List (Tree × Tree)) → Lacks l ps → Lacks l (without k ps)
Lacks-without k l [] h = tt
Lacks-without k l (p ∷ ps) h = grind (arith, Lacks-without k l ps h.1)

pub AreDistinct-without : (k : Tree) (ps : List (Tree × Tree)) → AreDistinct ps → AreDistinct (without k ps)
AreDistinct-without k [] h = tt
AreDistinct-without k (p ∷ ps) h = grind (arith, Lacks-without, AreDistinct-without k ps h.1)

-- of distinct keys, none is left that was taken out
pub Lacks-itself : (k : Tree) (ps : List (Tree × Tree)) → AreDistinct ps → Lacks k (without k ps)
Lacks-itself k [] h = tt
Lacks-itself k (p ∷ ps) h = grind (arith, tree_eq_decides, Lacks-itself k ps h.1)

pub Lacks-append : (l k v : Tree) (ps : List (Tree × Tree)) → Lacks l ps → l ≢ k → Lacks l (ps ++ (k, v) ∷ [])
Lacks-append l k v [] h n = (n, tt)
Lacks-append l k v (p ∷ ps) h n = (h.0, Lacks-append l k v ps h.1 n)

pub AreDistinct-append : (k v : Tree) (ps : List (Tree × Tree)) → AreDistinct ps → Lacks k ps → AreDistinct (ps ++ (k, v) ∷ [])
AreDistinct-append k v [] h n = (tt, tt)
AreDistinct-append k v (p ∷ ps) h n = (Lacks-append p.0 k v ps h.0 (λ e. n.0 (sym e)), AreDistinct-append k v ps h.1 n.1)

pub AreDistinct_insert : (k v : Tree) (ps : List (Tree × Tree)) → AreDistinct ps → AreDistinct (insert k v ps)
AreDistinct_insert k v ps h = AreDistinct-append k v (without k ps) (AreDistinct-without k ps h) (Lacks-itself k ps h)

-- a key that no pair has is found in what is put after
pub lookup-append : (k v : Tree) (ps : List (Tree × Tree)) → Lacks k ps → lookup k (ps ++ (k, v) ∷ []) ≡ Some v
lookup-append k v [] h = ap (λ b. cond b (Some v) None) (tree_eq-itself k)
lookup-append k v (p ∷ ps) h = ap (λ b. cond b (Some p.1) (lookup k (ps ++ (k, v) ∷ []))) (tree_eq-other k p.0 h.0) ∙ lookup-append k v ps h.1

pub lookup_insert : (k v : Tree) (ps : List (Tree × Tree)) → AreDistinct ps → lookup k (insert k v ps) ≡ Some v
lookup_insert k v ps h = lookup-append k v (without k ps) (Lacks-itself k ps h)

lookup-append_other : (k v l : Tree) (ps : List (Tree × Tree)) → l ≢ k → lookup l (ps ++ (k, v) ∷ []) ≡ lookup l ps
lookup-append_other k v l [] n = ap (λ b. cond b (Some v) None) (tree_eq-other l k n)
lookup-append_other k v l (p ∷ ps) n = ap (λ o. cond (tree_eq l p.0) (Some p.1) o) (lookup-append_other k v l ps n)

pub lookup-without_other : (k l : Tree) (ps : List (Tree × Tree)) → l ≢ k → lookup l (without k ps) ≡ lookup l ps
lookup-without_other k l [] n = refl
lookup-without_other k l (p ∷ ps) n = grind (arith, tree_eq-other, tree_eq_decides, lookup-without_other k l ps n)

pub lookup_insert_other : (k v l : Tree) (ps : List (Tree × Tree)) → l ≢ k → lookup l (insert k v ps) ≡ lookup l ps
lookup_insert_other k v l ps n = lookup-append_other k v l (without k ps) n ∙ lookup-without_other k l ps n

-- ---- the order

others : Tree → List (Tree × Tree) → List (Tree × Tree)
others k ps = filter (λ p. not (tree_eq k p.0)) ps

others-lacking : (k : Tree) (ps : List (Tree × Tree)) → Lacks k ps → others k ps ≡ ps
unfolding others
others-lacking k [] h = refl
others-lacking k (p ∷ ps) h = ap (λ b. cond (not b) (p ∷ others k ps) (others k ps)) (tree_eq-other k p.0 h.0) ∙ ap (λ qs. p ∷ qs) (others-lacking k ps h.1)

without-others : (k : Tree) (ps : List (Tree × Tree)) → AreDistinct ps → without k ps ≡ others k ps
unfolding others
without-others k [] h = refl
without-others k (p ∷ ps) h = grind (arith, others, others-lacking, tree_eq_decides, without-others k ps h.1)

pub insert_in_order : (k v : Tree) (ps : List (Tree × Tree)) → AreDistinct ps → insert k v ps ≡ filter (λ p. not (tree_eq k p.0)) ps ++ (k, v) ∷ []
unfolding others
insert_in_order k v ps h = ap (λ qs. qs ++ (k, v) ∷ []) (without-others k ps h)
