-- A row beside its places and digests, after a change.
use Rattle.yaml_tree.proofs.Common.{[], ap, AreDigests, AreDistinct, AreDistinct-with_value_at, AreDistinct-without, AreDistinct_insert, AreRanked, arith, closed_up, digests, first_by, flat, get_or, IsIndexed, IsRank, IsRankGap, items_view, Kept, length, length-map, List, map, moved_up, pairs_view, places, refl, remove, set, subst, sym, Tree, view, without, Yaml, ℕ, ◌*◌, ◌++◌, ◌+◌, ◌<◌, ◌∙◌, ◌∷◌, ◌≡◌}
use Rattle.defs_tree.specs.Pairs.{insert as insert_pair}
use Rattle.yaml_tree.specs.Seats.{IsInserted, IsReady, IsReadyWithout}
use Rattle.yaml_tree.proofs.Flattened.{added, pairs_from, value_set}
use Rattle.yaml_tree.proofs.Indexed.{digests_counted}
use Rattle.yaml_tree.proofs.Ranking.{AreKept, kept_digests, kept_ranked, moved_kept, removed_kept, skip, skip_kept, value_kept}
use Rattle.yaml_tree.proofs.Rows.{gap_absent, ranked_found, remove_ranked}

-- a row is indexed as what it stands for is
indexed_as : (zs : List Yaml) (us : List (Tree × Tree)) (n : Kept) → items_view zs ≡ flat us → AreDistinct us → AreRanked (first_by n) (places n) us
    → AreDigests (digests n) (places n) us → IsIndexed (items_view zs) n
indexed_as zs us n e d a g =
    let same = sym (pairs_from (items_view zs) us e) in
    record {
      hash = record { even = e ∙ ap flat same; distinct = subst AreDistinct same d; ranked = subst (AreRanked (first_by n) (places n)) same a };
      digested = subst (AreDigests (digests n) (places n)) same g;
    }

-- the ranks that are kept keep their digests
indexed_kept : {f : ℕ → ℕ} {ps vs : List (Tree × Tree)} (zs : List Yaml) (o n : Kept) → AreRanked (first_by o) (places o) ps → AreDigests (digests o) (places o) ps
    → AreKept f (places o) ps (places n) vs → first_by n ≡ first_by o
    → ((r : ℕ) → r < length (digests n) → (f r < length (digests o)) × (get_or (digests n) r 0 ≡ get_or (digests o) (f r) 0))
    → items_view zs ≡ flat vs → AreDistinct vs → IsIndexed (items_view zs) n
indexed_kept {vs = vs} zs o n a g k order same e d = indexed_as zs vs n e d (rw order (kept_ranked k a)) (kept_digests k (digests o) (digests n) g (digests_counted n) same)

-- another value
pub indexed_value : (ys : List Yaml) (o : Kept) (j : ℕ) (w : Yaml) → IsIndexed (items_view ys) o → IsIndexed (items_view (set ys (2 * j + 1) w)) o
indexed_value ys o j w i =
    let us = pairs_view ys in
    indexed_kept (set ys (2 * j + 1) w) o o i.hash.ranked i.digested (value_kept (places o) us j (view w) i.hash.ranked) refl (λ r h. (h, refl))
    (value_set ys us j w i.hash.even) (AreDistinct-with_value_at j (view w) us i.hash.distinct)

module _ (ys : List Yaml) (o n : Kept) (r : ℕ) (i : IsIndexed (items_view ys) o) where
  pub indexed_without : (k : Tree) (zs : List Yaml) → IsRank k (places o) (pairs_view ys) r → items_view zs ≡ flat (without k (pairs_view ys))
      → places n ≡ map (closed_up (get_or (places o) r 0)) (remove (places o) r) → digests n ≡ remove (digests o) r → first_by n ≡ first_by o → IsIndexed (items_view zs) n
  indexed_without k zs at e f g order =
      indexed_kept {f = skip r} zs o n i.hash.ranked i.digested (rw (f, ← remove_ranked ys i.hash k r at) (removed_kept (places o) (pairs_view ys) r i.hash.ranked at.0)) order
      (rw g (skip_kept (digests o) r)) e (AreDistinct-without k (pairs_view ys) i.hash.distinct)

  -- ---- a pair is put at the end of a row that has none with its key

  module _ (key : Yaml) where
    inserted : (rest : List Yaml) (value : Yaml) → items_view rest ≡ flat (without (view key) (pairs_view ys))
        → AreRanked (first_by n) (places n) (insert_pair (view key) (view value) (pairs_view ys))
        → AreDigests (digests n) (places n) (insert_pair (view key) (view value) (pairs_view ys)) → IsInserted ys (rest ++ key ∷ value ∷ []) key value n
    inserted rest value e a g =
        let zs = rest ++ key ∷ value ∷ [] in
        let vs = insert_pair (view key) (view value) (pairs_view ys) in
        let seen = added rest (without (view key) (pairs_view ys)) e zs key value refl in
        record { indexed = indexed_as zs vs n seen (AreDistinct_insert (view key) (view value) (pairs_view ys) i.hash.distinct) a g; pairs = pairs_from (items_view zs) vs seen }

    pub is_ready : IsRankGap (first_by o) (view key) (places o) (pairs_view ys) r → ((v : Tree) → AreRanked (first_by n) (places n) (pairs_view ys ++ (view key, v) ∷ []))
        → ((v : Tree) → AreDigests (digests n) (places n) (pairs_view ys ++ (view key, v) ∷ [])) → IsReady ys key n
    is_ready gap ranked digested =
        let none = gap_absent ys i.hash (view key) r gap in
        record {
          away = none.unfound;
          inserted = λ value. inserted ys value (i.hash.even ∙ ap flat (sym none.same)) (rw none.same (ranked (view value))) (rw none.same (digested (view value)));
        }

    pub is_ready_without : (p : ℕ) → IsRank (view key) (places o) (pairs_view ys) r → p ≡ get_or (places o) r 0 → places n ≡ map (moved_up p (length (places o))) (places o)
        → digests n ≡ digests o → first_by n ≡ first_by o → IsReadyWithout ys p key n
    is_ready_without p at e moved same order =
        let found = ranked_found ys i.hash (view key) r p at e in
        let kept = λ (v : Tree). moved_kept (places o) (pairs_view ys) r (view key) v i.hash.ranked at in
        record {
          inside = found.inside;
          value = found.found;
          inserted = λ value. inserted (remove (remove ys (2 * p)) (2 * p)) value (found.rest _ refl)
              (rw (order, moved, e, ← remove_ranked ys i.hash (view key) r at) (kept_ranked (kept (view value)) i.hash.ranked))
              (rw (moved, e, same, ← remove_ranked ys i.hash (view key) r at) (kept_digests (kept (view value)) (digests o) (digests o) i.digested
              (omega (arith, digests_counted o, length-map (places o) (moved_up (get_or (places o) r 0) (length (places o))))) (λ s g. (g, refl))));
        }
