-- What is read of lists of items and of pairs with distinct keys.
use Rattle.proof_layouts.proofs.Common.{[], Anchors, ap, append-nil, append_assoc, AreDistinct, Items, items_of, Lacks, List, list_of, lookup, Nest, nest_pair, NestPairs, no_nest_pairs, None, Ok, read_node, read_pairs, refl, sym, Tree, without, ◌++◌, ◌∙◌, ◌∷◌, ◌≡◌, ◌≢◌}
use Rattle.defs_tree.proofs.PairsLaws.{tree_eq-other}

-- ---- pairs with another key

lacks_there : (k : Tree) (before after : List (Tree × Tree)) (p : Tree × Tree) → Lacks k (before ++ p ∷ after) → k ≢ p.0
lacks_there k [] after p h = h.0
lacks_there k (q ∷ before) after p h = lacks_there k before after p h.1

-- the key of a pair among distinct ones is not found before it
new_key : (k v : Tree) (held after : List (Tree × Tree)) → AreDistinct (held ++ (k, v) ∷ after)
    → (lookup k held ≡ None) × (without k held ≡ held)
new_key k v [] after h = (refl, refl)
new_key k v (q ∷ held) after h =
    let r = new_key k v held after h.1 in
    let other = tree_eq-other k q.0 (λ e. lacks_there q.0 held after (k, v) h.0 (sym e)) in
    (rw other r.0, rw (other, r.1) refl)

-- ---- reading

-- these pairs are read after any others, if all keys are distinct
pub record PairsRead (ns : NestPairs) (ps : List (Tree × Tree)) (before after : Anchors) : Type 0 where
  pub behind : (held : List (Tree × Tree)) → AreDistinct (held ++ ps) → read_pairs ns held before ≡ Ok (held ++ ps, after)

pub no_pairs_read : (anchors : Anchors) → PairsRead no_nest_pairs [] anchors anchors
no_pairs_read anchors = record { behind = λ held distinct. rw append-nil refl }

-- a pair before others
pub pair_read : {k v : Tree} {key value : Nest} {ns : NestPairs} {ps : List (Tree × Tree)} {before between later last : Anchors}
    → read_node key before ≡ Ok (k, between) → read_node value between ≡ Ok (v, later) → PairsRead ns ps later last
    → PairsRead (nest_pair key value ns) ((k, v) ∷ ps) before last
pair_read {k = k} {v = v} {ps = ps} {last = last} first second others = record {
  behind = λ held distinct.
      let new = new_key k v held ps distinct in
      let same : (held ++ (k, v) ∷ []) ++ ps ≡ held ++ (k, v) ∷ ps = append_assoc held ((k, v) ∷ []) ps in
      rw (first, second, new.0, new.1)
      (others.behind (held ++ (k, v) ∷ []) (rw same distinct) ∙ ap (λ qs. Ok (qs, last)) same);
}

pub list_again : (ts : Items) → items_of (list_of ts) ≡ ts
list_again Items.no_items = refl
list_again (Items.item t ts) = ap (Items.item t) (list_again ts)
