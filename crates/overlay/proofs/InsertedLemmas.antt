-- Pairs of new keys, put into a hash one after the other, stand after its pairs.
use Rattle.overlay.proofs.Common.{[], ap, append-nil, append_assoc, AreDistinct, hash, insert, inserted, Lacks, laid_distinct, List, list_of_pairs, new_pairs, overlay, pairs_of, pairs_under, refl, sym, Tree, without, ◌++◌, ◌∙◌, ◌∷◌, ◌≡◌}
use Rattle.defs_tree.proofs.PairsLaws.{tree_eq-other}

without_none : (k : Tree) (ps : List (Tree × Tree)) → Lacks k ps → without k ps ≡ ps
without_none k [] h = refl
without_none k (p ∷ ps) h = rw (tree_eq-other k p.0 h.0) (ap (λ qs. p ∷ qs) (without_none k ps h.1))

-- a new key's pair goes to the end
pub put_new : (k v : Tree) (ps : List (Tree × Tree)) → Lacks k ps → insert k v ps ≡ ps ++ (k, v) ∷ []
put_new k v ps h = ap (λ qs. qs ++ (k, v) ∷ []) (without_none k ps h)

lacks_here : (l : Tree) (ps qs : List (Tree × Tree)) (q : Tree × Tree) → Lacks l (ps ++ q ∷ qs) → l ≡ q.0 → ⊥
lacks_here l [] qs q h e = h.0 e
lacks_here l (p ∷ ps) qs q h e = lacks_here l ps qs q h.1 e

-- a key after others isn't among them
pub key_is_new : (ps qs : List (Tree × Tree)) (q : Tree × Tree) → AreDistinct (ps ++ q ∷ qs) → Lacks q.0 ps
key_is_new [] qs q h = tt
key_is_new (p ∷ ps) qs q h = ((λ e. lacks_here p.0 ps qs q h.0 (sym e)), key_is_new ps qs q h.1)

pub inserted_after : (ps qs : List (Tree × Tree)) → AreDistinct (ps ++ qs) → inserted ps qs ≡ ps ++ qs
inserted_after ps [] h = sym (append-nil ps)
inserted_after ps (q ∷ qs) h =
    let f : (ps ++ q ∷ []) ++ qs ≡ ps ++ q ∷ qs = append_assoc ps (q ∷ []) qs in
    rw (put_new q.0 q.1 ps (key_is_new ps qs q h)) (inserted_after (ps ++ q ∷ []) qs (rw f h) ∙ f)

inserted_both : (ps qs rs : List (Tree × Tree)) → inserted (inserted ps qs) rs ≡ inserted ps (qs ++ rs)
inserted_both ps [] rs = refl
inserted_both ps (q ∷ qs) rs = inserted_both (insert q.0 q.1 ps) qs rs

-- the two loops make the overlay
pub laid_pairs : (ps qs : List (Tree × Tree)) → AreDistinct ps → AreDistinct qs
    → inserted (inserted [] (pairs_under qs (pairs_of ps))) (new_pairs ps qs) ≡ pairs_under qs (pairs_of ps) ++ new_pairs ps qs
laid_pairs ps qs h g =
    let under = pairs_under qs (pairs_of ps) in
    let d = rw (list_of_pairs ps) at (laid_distinct (pairs_of ps) qs (rw (list_of_pairs ps) h) g) in
    inserted_both [] under (new_pairs ps qs) ∙ inserted_after [] (under ++ new_pairs ps qs) d
