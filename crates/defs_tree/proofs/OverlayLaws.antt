-- Laid over one another, trees with distinct keys have distinct keys.
use Rattle.defs_tree.proofs.Common.{[], AllPairsDistinct, ap, AreDistinct, cond, has_key, hash, is_some, IsDistinct, Lacks, List, lookup, new_pairs, no_pairs, Option, option_map_or, overlay, pair, pair_list_of, Pairs, pairs_of, pairs_under, refl, Some, Tree, true, ◌++◌, ◌∷◌, ◌≡◌, arith}
use Rattle.defs_tree.proofs.PairsLaws.{tree_eq-itself}
use Rattle.defs_tree.proofs.TypingLaws.{OfSome}

-- the first holds of each key, and the second of each value
abbrev pub Each : (Tree → Type 0) → (Tree → Type 0) → List (Tree × Tree) → Type 0
Each K V [] = Unit {0}
Each K V (p ∷ ps) = (K p.0 × V p.1) × Each K V ps

-- each key and each value has distinct keys
abbrev pub EachDistinct : List (Tree × Tree) → Type 0
EachDistinct ps = Each IsDistinct IsDistinct ps

-- each of these keys is one of those
abbrev KeysWithin : List (Tree × Tree) → List (Tree × Tree) → Type 0
KeysWithin those [] = Unit {0}
KeysWithin those (p ∷ ps) = (has_key p.0 those ≡ true) × KeysWithin those ps

pub list_of_pairs : (ps : List (Tree × Tree)) → pair_list_of (pairs_of ps) ≡ ps
list_of_pairs [] = refl
list_of_pairs (p ∷ ps) = ap (λ qs. p ∷ qs) (list_of_pairs ps)

pub EachDistinct-list : (ps : Pairs) → AllPairsDistinct ps → EachDistinct (pair_list_of ps)
EachDistinct-list no_pairs h = tt
EachDistinct-list (pair k v ps) h = ((h.0, h.1), EachDistinct-list ps h.2)

pub EachDistinct-pairs : (ps : List (Tree × Tree)) → EachDistinct ps → AllPairsDistinct (pairs_of ps)
EachDistinct-pairs [] h = tt
EachDistinct-pairs (p ∷ ps) h = (h.0.0, h.0.1, EachDistinct-pairs ps h.1)

module _ (K V : Tree → Type 0) where
  pub each_append : (ps qs : List (Tree × Tree)) → Each K V ps → Each K V qs → Each K V (ps ++ qs)
  each_append [] qs h g = g
  each_append (p ∷ ps) qs h g = (h.0, each_append ps qs h.1 g)

  pub each_lookup : (k : Tree) (ps : List (Tree × Tree)) → Each K V ps → OfSome V (lookup k ps)
  each_lookup k [] h = tt
  each_lookup k (p ∷ ps) h = grind (arith, each_lookup k ps h.1)

  pub each_new : (those ps : List (Tree × Tree)) → Each K V ps → Each K V (new_pairs those ps)
  each_new those [] h = tt
  each_new those (p ∷ ps) h = grind (arith, each_new those ps h.1)

-- ---- the new pairs

Lacks-new : (l : Tree) (those ps : List (Tree × Tree)) → Lacks l ps → Lacks l (new_pairs those ps)
Lacks-new l those [] h = tt
Lacks-new l those (p ∷ ps) h = grind (arith, Lacks-new l those ps h.1)

AreDistinct-new : (those ps : List (Tree × Tree)) → AreDistinct ps → AreDistinct (new_pairs those ps)
AreDistinct-new those [] h = tt
AreDistinct-new those (p ∷ ps) h = grind (arith, Lacks-new, AreDistinct-new those ps h.1)

-- they lack each of those keys
new_lacks : (l : Tree) (those ps : List (Tree × Tree)) → has_key l those ≡ true → Lacks l (new_pairs those ps)
new_lacks l those [] h = tt
new_lacks l those (p ∷ ps) h = grind (arith, new_lacks l those ps h)

-- ---- the left's pairs

Lacks-under : (l : Tree) (us : List (Tree × Tree)) (ps : Pairs) → Lacks l (pair_list_of ps) → Lacks l (pairs_under us ps)
Lacks-under l us no_pairs h = tt
Lacks-under l us (pair k v ps) h = (h.0, Lacks-under l us ps h.1)

AreDistinct-under : (us : List (Tree × Tree)) (ps : Pairs) → AreDistinct (pair_list_of ps) → AreDistinct (pairs_under us ps)
AreDistinct-under us no_pairs h = tt
AreDistinct-under us (pair k v ps) h = (Lacks-under k us ps h.0, AreDistinct-under us ps h.1)

KeysWithin-under : (those us : List (Tree × Tree)) (ps : Pairs) → KeysWithin those (pair_list_of ps) → KeysWithin those (pairs_under us ps)
KeysWithin-under those us no_pairs h = tt
KeysWithin-under those us (pair k v ps) h = (h.0, KeysWithin-under those us ps h.1)

KeysWithin-more : (q : Tree × Tree) (those ps : List (Tree × Tree)) → KeysWithin those ps → KeysWithin (q ∷ those) ps
KeysWithin-more q those [] h = tt
KeysWithin-more q those (p ∷ ps) h = grind (arith, KeysWithin-more q those ps h.1)

KeysWithin-itself : (ps : List (Tree × Tree)) → KeysWithin ps ps
KeysWithin-itself [] = tt
KeysWithin-itself (p ∷ ps) = (ap (λ b. is_some (cond b (Some p.1) (lookup p.0 ps))) (tree_eq-itself p.0), KeysWithin-more p ps ps (KeysWithin-itself ps))

Lacks-both : (l : Tree) (ps qs : List (Tree × Tree)) → Lacks l ps → Lacks l qs → Lacks l (ps ++ qs)
Lacks-both l [] qs h g = g
Lacks-both l (p ∷ ps) qs h g = (h.0, Lacks-both l ps qs h.1 g)

-- the left's pairs and then the new ones
AreDistinct-both : (those ps us : List (Tree × Tree)) → AreDistinct ps → KeysWithin those ps → AreDistinct us → AreDistinct (ps ++ new_pairs those us)
AreDistinct-both those [] us h k g = AreDistinct-new those us g
AreDistinct-both those (p ∷ ps) us h k g = (Lacks-both p.0 ps (new_pairs those us) h.0 (new_lacks p.0 those us k.0), AreDistinct-both those ps us h.1 k.1 g)

-- all keys of the overlay of two lists
pub laid_distinct : (ps : Pairs) (us : List (Tree × Tree)) → AreDistinct (pair_list_of ps) → AreDistinct us
    → AreDistinct (pairs_under us ps ++ new_pairs (pair_list_of ps) us)
laid_distinct ps us h g =
    let ts = pair_list_of ps in
    AreDistinct-both ts (pairs_under us ps) us (AreDistinct-under us ps h) (KeysWithin-under ts us ps (KeysWithin-itself ts)) g

-- a value with what may be laid over it
pub laid_value : (V : Tree → Type 0) (v : Tree) (laid : Tree → Tree) (o : Option Tree) → V v → ((w : Tree) → V w → V (laid w)) → OfSome V o → V (option_map_or laid o v)
laid_value a v laid b h f g = grind arith

-- ---- whole trees

whole_distinct : (ps qs : Pairs) → IsDistinct (hash ps) → IsDistinct (hash qs) → EachDistinct (pairs_under (pair_list_of qs) ps) → IsDistinct (overlay (hash ps) (hash qs))
whole_distinct ps qs h g each = grind (arith, list_of_pairs, laid_distinct, EachDistinct-pairs, each_append, each_new, EachDistinct-list)

mutual
  pub overlay_distinct : (t u : Tree) → IsDistinct t → IsDistinct u → IsDistinct (overlay t u)
  overlay_distinct (hash ps) (hash qs) h g = whole_distinct ps qs h g (under_distinct (pair_list_of qs) ps (EachDistinct-list qs g.1) h.1)
  overlay_distinct t u h g = g

  under_distinct : (us : List (Tree × Tree)) (ps : Pairs) → EachDistinct us → AllPairsDistinct ps → EachDistinct (pairs_under us ps)
  under_distinct us no_pairs e h = tt
  under_distinct us (pair k v ps) e h = grind (arith, laid_value, each_lookup, overlay_distinct v, under_distinct us ps e h.2)
