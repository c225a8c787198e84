-- A row of keys and values beside its ranks: what was found in it.
use Rattle.yaml_tree.proofs.Common.{absent, ap, arith, flat, get_or, HasPlace, IsHash, IsIndexed, IsRank, IsRankGap, items_view, key_at, key_of_rank, Kept, length, List, lookup, pairs_view, place_in, place_of, places, rank_at, refl, remove, Some, Tree, view, without, Yaml, ℕ, ◌*◌, ◌+◌, ◌<◌, ◌∙◌, ◌≡◌}
use Rattle.yaml_tree.specs.declared.entry.Spot.{Spot}
use Rattle.defs_tree.proofs.Places.{IsAbsent}
use Rattle.yaml_tree.proofs.Flattened.{row_length, key_seen, value_seen, taken}
use Rattle.yaml_tree.proofs.Indexed.{place_inside}
use Rattle.yaml_tree.proofs.Placed.{remove_placed}
use Rattle.yaml_tree.proofs.Ranking.{place_some, gap_none}

-- a place of a row has the key of a rank
pub record IsAt (ys : List Yaml) (rs : List ℕ) (r p : ℕ) : Type 0 where
  pub ranked : r < length rs
  pub within : p < length (pairs_view ys)
  pub inside : 2 * p + 1 < length ys
  pub key : (x : Yaml) → x ≡ get_or ys (2 * p) x → view x ≡ key_of_rank rs (pairs_view ys) r

-- a place of a row has a key's pair
pub record IsFound (k : Tree) (ys : List Yaml) (p : ℕ) : Type 0 where
  pub inside : 2 * p + 1 < length ys
  pub found : (x : Yaml) → x ≡ get_or ys (2 * p + 1) x → Some (view x) ≡ lookup k (pairs_view ys)
  pub rest : (zs : List Yaml) → zs ≡ remove (remove ys (2 * p)) (2 * p) → items_view zs ≡ flat (without k (pairs_view ys))

module _ {m : Tree → ℕ} (ys : List Yaml) {rs : List ℕ} (h : IsHash m (items_view ys) rs) where
  pub row_counted : length ys ≡ 2 * length rs
  row_counted = omega (arith, row_length ys (pairs_view ys) h.even, h.ranked.counted)

  pub ranked_at : (r p : ℕ) → r < length rs → p ≡ get_or rs r 0 → IsAt ys rs r p
  ranked_at r p g e =
      let within : p < length (pairs_view ys) = omega (arith, h.ranked.within r g) in
      record {
        ranked = g;
        within = within;
        inside = omega (arith, row_counted, h.ranked.counted);
        key = λ x f. key_seen ys (pairs_view ys) h.even p x within f ∙ ap (key_at (pairs_view ys)) e;
      }

  module _ (k : Tree) where
    pub placed : (p : ℕ) → Some p ≡ place_of k (pairs_view ys) → IsFound k ys p
    placed p e =
        let at = place_in k (pairs_view ys) p e in
        record {
          inside = omega (arith, at.within, row_counted, h.ranked.counted);
          found = λ x f. value_seen ys (pairs_view ys) h.even p x at.within f ∙ at.found;
          rest = λ zs f. taken ys (pairs_view ys) h.even zs p at.within f ∙ ap flat (remove_placed k (pairs_view ys) p e);
        }

    pub ranked_place : (r p : ℕ) → IsRank k rs (pairs_view ys) r → p ≡ get_or rs r 0 → Some p ≡ place_of k (pairs_view ys)
    ranked_place r p at e = place_some k (pairs_view ys) p h.distinct (ranked_at r p at.0 e).within (ap (key_at (pairs_view ys)) e ∙ at.1)

    pub ranked_found : (r p : ℕ) → IsRank k rs (pairs_view ys) r → p ≡ get_or rs r 0 → IsFound k ys p
    ranked_found r p at e = placed p (ranked_place r p at e)

    -- taking out the pair at a rank's place takes out the key's pair
    pub remove_ranked : (r : ℕ) → IsRank k rs (pairs_view ys) r → remove (pairs_view ys) (get_or rs r 0) ≡ without k (pairs_view ys)
    remove_ranked r at = remove_placed k (pairs_view ys) (get_or rs r 0) (ranked_place r (get_or rs r 0) at refl)

    pub gap_absent : (r : ℕ) → IsRankGap m k rs (pairs_view ys) r → IsAbsent k (pairs_view ys)
    gap_absent r gap = absent k (pairs_view ys) (gap_none k rs (pairs_view ys) h.ranked r gap)

-- the same of the place at a spot
pub spot_at : (ys : List Yaml) {k : Kept} → IsIndexed (items_view ys) k → (s : Spot) (p : ℕ) → HasPlace k s → p ≡ get_or (places k) (rank_at k s) 0
    → IsAt ys (places k) (rank_at k s) p
spot_at ys {k = k} i s p h e = ranked_at ys i.hash (rank_at k s) p (place_inside k s h).0 e
