-- The places of a hash's pairs by rank: what finding, adding, removing and moving a pair does to them.
use Rattle.std.specs.List.{IsDistinct}
use Rattle.std.specs.Cmp.{IsTotalOrder}
use Rattle.std.specs.Prelude.{◌==◌}
use Rattle.std.proofs.Common.{length-append}
use Rattle.std.proofs.lemmas.Grind.{get_or_default_zero}
use Rattle.std.proofs.lemmas.Map.Keys.{IsDistinct-from_apart}
use Rattle.std.proofs.lemmas.Map.Steps.{length-le_from_distinct_below}
use Rattle.yaml_tree.proofs.Common.{[], ap, AreDigests, AreDistinct, AreRanked, arith, cases_lt, closed_up, cond, digest, eqb, eqb-true, false_from_ne_true, get_or, get_or-insert_above, get_or-insert_at, get_or-insert_below, get_or-map, Greater, insert, IsRank, IsRankGap, key_at, key_cmp, key_of_rank, Lacks, length, length-insert, length-map, length-remove, Less, List, list_any, map, moved_up, nat_cmp_total, nat_lt, nat_tests, None, on_total, ordering_reverse, place_of, refl, remove, Some, suc, sym, then_total, tied_itself, Tree, tree_cmp_total, tree_eq-itself, tree_eq-other, true, with_value_at, zero, ℕ, ◌++◌, ◌+◌, ◌-◌, ◌<◌, ◌∙◌, ◌∷◌, ◌≡◌, ◌≢◌, ◌≤◌}

abbrev pub Pairs : Type 0
Pairs = List (Tree × Tree)

-- ---- the order

pub key_cmp_total : (m : Tree → ℕ) → IsTotalOrder (key_cmp m)
key_cmp_total m = then_total (on_total m nat_cmp_total) tree_cmp_total

pub greater_less : (m : Tree → ℕ) (s t : Tree) → key_cmp m s t ≡ Greater → key_cmp m t s ≡ Less
greater_less m s t e = (key_cmp_total m).antisymm t s ∙ ap ordering_reverse e

above_lower : (m : Tree → ℕ) (k s t : Tree) → key_cmp m k t ≡ Greater → key_cmp m s t ≡ Less → key_cmp m k s ≡ Greater
above_lower m k s t e f = (key_cmp_total m).antisymm k s ∙ ap ordering_reverse ((key_cmp_total m).trans s t k f (greater_less m k t e))

both : (m : Tree → ℕ) {s t u v : Tree} → s ≡ u → t ≡ v → key_cmp m u v ≡ Less → key_cmp m s t ≡ Less
both m {t = t} {u = u} d e h = ap (λ x. key_cmp m x t) d ∙ ap (key_cmp m u) e ∙ h

-- ---- keys by place

pub key_append_left : (ps qs : Pairs) (i : ℕ) → i < length ps → key_at (ps ++ qs) i ≡ key_at ps i
key_append_left [] qs i h = absurd (omega arith)
key_append_left (p ∷ ps) qs i h = grind (arith, key_append_left ps qs)

pub key_append_end : (ps : Pairs) (k v : Tree) (n : ℕ) → n ≡ length ps → key_at (ps ++ (k, v) ∷ []) n ≡ k
key_append_end [] k v n e = grind arith
key_append_end (p ∷ ps) k v n e = grind (arith, key_append_end ps k v)

key_remove_below : (ps : Pairs) (p i : ℕ) → i < p → key_at (remove ps p) i ≡ key_at ps i
key_remove_below ps zero i h = absurd (omega arith)
key_remove_below [] (suc p) i h = refl
key_remove_below (q ∷ ps) (suc p) i h = grind (arith, key_remove_below ps p)

key_remove_above : (ps : Pairs) (p i : ℕ) → p ≤ i → key_at (remove ps p) i ≡ key_at ps (suc i)
key_remove_above [] zero i h = refl
key_remove_above [] (suc p) i h = refl
key_remove_above (q ∷ ps) zero i h = refl
key_remove_above (q ∷ ps) (suc p) i h = grind (arith, key_remove_above ps p)

key_with_value : (ps : Pairs) (i : ℕ) (t : Tree) (j : ℕ) → key_at (with_value_at i t ps) j ≡ key_at ps j
key_with_value [] i t j = refl
key_with_value (p ∷ ps) i t j = grind (arith, key_with_value ps)

length-with_value : (ps : Pairs) (i : ℕ) (t : Tree) → length (with_value_at i t ps) ≡ length ps
length-with_value [] i t = refl
length-with_value (p ∷ ps) i t = grind (arith, length-with_value ps)

closed_key : (ps : Pairs) (p q : ℕ) → q ≢ p → key_at (remove ps p) (closed_up p q) ≡ key_at ps q
closed_key ps p q n = grind (arith, nat_tests, key_remove_below, after)
  where
    after : (q : ℕ) → p < q → key_at (remove ps p) (q - 1) ≡ key_at ps q
    after zero h = absurd (omega arith)
    after (suc q) h = ap (key_at (remove ps p)) (omega arith) ∙ key_remove_above ps p q (omega arith)

closed_within : (p q n : ℕ) → q ≢ p → p < suc n → q < suc n → closed_up p q < n
closed_within p q n a h g = grind (arith, nat_tests)

-- ---- ranks

-- the ranks qs of the pairs us are some of the ranks rs of the pairs ps, in their order, and they keep their keys
pub record AreKept (f : ℕ → ℕ) (rs : List ℕ) (ps : Pairs) (qs : List ℕ) (us : Pairs) : Type 0 where
  pub counted : length qs ≡ length us
  pub rises : (r s : ℕ) → r < s → f r < f s
  pub old : (r : ℕ) → r < length qs → f r < length rs
  pub within : (r : ℕ) → r < length qs → get_or qs r 0 < length us
  pub key : (r : ℕ) → r < length qs → key_of_rank qs us r ≡ key_of_rank rs ps (f r)

module _ {f : ℕ → ℕ} {rs qs : List ℕ} {ps us : Pairs} (k : AreKept f rs ps qs us) where
  pub kept_ranked : {m : Tree → ℕ} → AreRanked m rs ps → AreRanked m qs us
  kept_ranked {m} a = record {
    counted = k.counted;
    within = k.within;
    ascending = λ r s h g. both m (k.key r (omega arith)) (k.key s g) (a.ascending (f r) (f s) (k.rises r s h) (k.old s g));
  }

  pub kept_digests : (ms ns : List ℕ) → AreDigests ms rs ps → length ns ≤ length qs
      → ((r : ℕ) → r < length ns → (f r < length ms) × (get_or ns r 0 ≡ get_or ms (f r) 0)) → AreDigests ns qs us
  kept_digests ms ns digested few each = λ r h. (each r h).1 ∙ digested (f r) (each r h).0 ∙ sym (ap digest (k.key r (omega arith)))

pub value_kept : {m : Tree → ℕ} (rs : List ℕ) (ps : Pairs) (i : ℕ) (t : Tree) → AreRanked m rs ps → AreKept (λ r. r) rs ps rs (with_value_at i t ps)
value_kept rs ps i t a = record {
  counted = omega (arith, a.counted, length-with_value ps i t);
  rises = λ r s h. h;
  old = λ r h. h;
  within = λ r h. omega (arith, a.within r h, length-with_value ps i t);
  key = λ r h. key_with_value ps i t (get_or rs r 0);
}

-- ranks have places of their own
module _ {m : Tree → ℕ} (rs : List ℕ) (ps : Pairs) (a : AreRanked m rs ps) where
  rising_apart : (r s : ℕ) → r < s → s < length rs → get_or rs r 0 ≢ get_or rs s 0
  rising_apart r s h g e =
      let less = a.ascending r s h g in
      let tied = tied_itself (key_cmp_total m) (key_of_rank rs ps r) in
      cc

  other_place : (r s : ℕ) → r < length rs → s < length rs → s ≢ r → get_or rs s 0 ≢ get_or rs r 0
  other_place r s h g n = grind (arith, cases_lt, rising_apart)

  -- a key above that of a rank is above all before; one below it is below all beyond
  pub above_up_to : (k : Tree) (l : ℕ) → l < length rs → key_cmp m k (key_of_rank rs ps l) ≡ Greater → (s : ℕ) → s < l + 1 → key_cmp m k (key_of_rank rs ps s) ≡ Greater
  above_up_to k l h e s below = grind (arith, above_lower)

  pub below_from_on : (k : Tree) (l : ℕ) → key_cmp m k (key_of_rank rs ps l) ≡ Less → (s : ℕ) → l ≤ s → s < length rs → key_cmp m k (key_of_rank rs ps s) ≡ Less
  below_from_on k l e s above h = let later = (key_cmp_total m).trans k (key_of_rank rs ps l) (key_of_rank rs ps s) in grind arith

-- ---- a pair goes to the end and keeps its key

moved_one : (ps : Pairs) (k v : Tree) (p q n : ℕ) → n ≡ length ps → p < n → q < n → key_at ps p ≡ k
    → key_at (remove ps p ++ (k, v) ∷ []) (moved_up p n q) ≡ key_at ps q
moved_one ps k v p q n e h g is =
    let fewer : length (remove ps p) + 1 ≡ length ps = length-remove ps p (omega arith) in
    grind (arith, nat_tests, fewer, key_append_left, key_append_end, closed_key, closed_within)

moved_within : (p n q : ℕ) → p < n → q < n → moved_up p n q < n
moved_within p n q h g = grind (arith, nat_tests)

pub moved_kept : {m : Tree → ℕ} (rs : List ℕ) (ps : Pairs) (r : ℕ) (k v : Tree) → AreRanked m rs ps → IsRank k rs ps r
    → AreKept (λ s. s) rs ps (map (moved_up (get_or rs r 0) (length rs)) rs) (remove ps (get_or rs r 0) ++ (k, v) ∷ [])
moved_kept rs ps r k v a is =
    let p = get_or rs r 0 in
    let f = moved_up p (length rs) in
    let same = length-map rs f in
    let fewer = length-remove ps p (a.within r is.0) in
    let more = length-append (remove ps p) ((k, v) ∷ []) in
    let inside = λ (s : ℕ) (h : s < length (map f rs)). a.within s (omega arith) in
    let place = λ (s : ℕ) (h : s < length (map f rs)). get_or-map f rs s 0 0 (omega arith) in
    record {
      counted = omega (arith, a.counted);
      rises = λ s t h. h;
      old = λ s h. omega arith;
      within = λ s h. omega (arith, a.counted, place s h, moved_within p (length rs) (get_or rs s 0) (omega (arith, a.counted)) (omega (arith, a.counted, inside s h)));
      key = λ s h. ap (key_at (remove ps p ++ (k, v) ∷ [])) (place s h)
          ∙ moved_one ps k v p (get_or rs s 0) (length rs) a.counted (omega (arith, a.counted)) (omega (arith, a.counted, inside s h)) is.1;
    }

-- ---- a pair goes

abbrev pub skip : ℕ → ℕ → ℕ
skip r s = cond (nat_lt s r) s (suc s)

skip_rises : (r s t : ℕ) → s < t → skip r s < skip r t
skip_rises r s t h = grind (arith, nat_tests)

skip_other : (r s : ℕ) → skip r s ≢ r
skip_other r s = grind (arith, nat_tests)

pub skip_kept : (xs : List ℕ) (r s : ℕ) → s < length (remove xs r) → (skip r s < length xs) × (get_or (remove xs r) s 0 ≡ get_or xs (skip r s) 0)
skip_kept [] zero s h = absurd (omega arith)
skip_kept [] (suc r) s h = absurd (omega arith)
skip_kept (x ∷ xs) zero s h = grind (arith, nat_tests)
skip_kept (x ∷ xs) (suc r) zero h = grind (arith, nat_tests)
skip_kept (x ∷ xs) (suc r) (suc s) h = grind (arith, nat_tests, skip_kept xs r s)

pub removed_kept : {m : Tree → ℕ} (rs : List ℕ) (ps : Pairs) (r : ℕ) → AreRanked m rs ps → r < length rs
    → AreKept (skip r) rs ps (map (closed_up (get_or rs r 0)) (remove rs r)) (remove ps (get_or rs r 0))
removed_kept rs ps r a h =
    let p = get_or rs r 0 in
    let f = closed_up p in
    let same = length-map (remove rs r) f in
    let fewer = length-remove ps p (a.within r h) in
    let kept = λ (s : ℕ) (g : s < length (map f (remove rs r))). skip_kept rs r s (omega arith) in
    let place = λ (s : ℕ) (g : s < length (map f (remove rs r))). get_or-map f (remove rs r) s 0 0 (omega arith) ∙ ap f (kept s g).1 in
    let other = λ (s : ℕ) (g : s < length (map f (remove rs r))). other_place rs ps a r (skip r s) h (kept s g).0 (skip_other r s) in
    record {
      counted = omega (arith, length-remove rs r h, a.counted);
      rises = skip_rises r;
      old = λ s g. (kept s g).0;
      within = λ s g. omega (
        arith,
        place s g,
        closed_within p (get_or rs (skip r s) 0) (length (remove ps p)) (other s g) (omega (arith, a.within r h))
            (omega (arith, a.within (skip r s) (kept s g).0)),
      );
      key = λ s g. ap (key_at (remove ps p)) (place s g) ∙ closed_key ps p (get_or rs (skip r s) 0) (other s g);
    }

-- ---- a number comes into a list

module _ (xs : List ℕ) (at x : ℕ) (h : at ≤ length xs) where
  pub inserted_at : (s : ℕ) → get_or (insert xs at x) s 0 ≡ cond (s == at) x (get_or xs (closed_up at s) 0)
  inserted_at s = grind (arith, nat_tests, get_or-insert_below xs at x 0, get_or-insert_at xs at x 0, above)
    where
      above : at < s → get_or (insert xs at x) s 0 ≡ get_or xs (s - 1) 0
      above l = ap (λ i. get_or (insert xs at x) i 0) (omega arith) ∙ get_or-insert_above xs at x 0 (s - 1) (omega arith) h

  -- what holds of each number
  pub each_with : (P : ℕ → Type 0) → ((s : ℕ) → s < length xs → P (get_or xs s 0)) → P x → (s : ℕ) → s < length xs + 1
      → P (get_or (insert xs at x) s 0)
  each_with P old new s l = rw (inserted_at s) (grind (arith, nat_tests, at, x, h, old))

  -- what holds of any two numbers
  pub any_two : (R : ℕ → ℕ → Type 0) → ((s t : ℕ) → s < t → t < length xs → R (get_or xs s 0) (get_or xs t 0))
      → ((s : ℕ) → s < at → R (get_or xs s 0) x)
      → ((s : ℕ) → at ≤ s → s < length xs → R x (get_or xs s 0)) → (s t : ℕ) → s < t → t < length xs + 1 → R (get_or (insert xs at x) s 0) (get_or (insert xs at x) t 0)
  any_two R old low high s t f l = rw (inserted_at s, inserted_at t) (grind (arith, nat_tests, at, x, h, old, low, high))

-- ---- a pair comes

pub ranked_added : {m : Tree → ℕ} (rs : List ℕ) (ps : Pairs) (r : ℕ) (k v : Tree) → AreRanked m rs ps → IsRankGap m k rs ps r → AreRanked m (insert rs r (length rs)) (ps ++ (k, v) ∷ [])
ranked_added {m} rs ps r k v a gap =
    let qs : Pairs = ps ++ (k, v) ∷ [] in
    let more = length-insert rs r (length rs) gap.within in
    let longer = length-append ps ((k, v) ∷ []) in
    let old = λ (s : ℕ) (h : s < length rs). key_append_left ps ((k, v) ∷ []) (get_or rs s 0) (a.within s h) in
    let new = key_append_end ps k v (length rs) a.counted in
    record {
      counted = omega (arith, a.counted);
      within = λ s h. each_with rs r (length rs) gap.within (λ p. p < length qs) (λ s l. omega (arith, a.within s l)) (omega (arith, a.counted)) s (omega arith);
      ascending = λ s t l h. any_two rs r (length rs) gap.within (λ p q. key_cmp m (key_at qs p) (key_at qs q) ≡ Less)
          (λ s t l h. both m (old s (omega arith)) (old t h) (a.ascending s t l h))
          (λ s l. both m (old s (omega (arith, gap.within))) new (greater_less m k (key_of_rank rs ps s) (gap.above s l)))
          (λ s l h. both m new (old s h) (gap.below s l h)) s t l (omega arith);
    }

-- ---- a key that has a rank, and one that has none

pub Lacks_at : (k : Tree) (ps : Pairs) (i : ℕ) → Lacks k ps → i < length ps → k ≢ key_at ps i
Lacks_at k [] i l h = absurd (omega arith)
Lacks_at k (p ∷ ps) i l h = grind (arith, Lacks_at k ps)

pub place_some : (k : Tree) (ps : Pairs) (i : ℕ) → AreDistinct ps → i < length ps → key_at ps i ≡ k → Some i ≡ place_of k ps
place_some k [] i d h e = absurd (omega arith)
place_some k (p ∷ ps) zero d h e = grind (arith, tree_eq-itself k)
place_some k (p ∷ ps) (suc i) d h e =
    let other = tree_eq-other k p.0 (λ f. Lacks_at p.0 ps i d.0 (omega arith) (sym f ∙ sym e)) in
    grind (arith, place_some k ps i d.1)

pub place_none : (k : Tree) (ps : Pairs) → ((i : ℕ) → i < length ps → key_at ps i ≢ k) → None ≡ place_of k ps
place_none k [] n = refl
place_none k (p ∷ ps) n =
    let other = tree_eq-other k p.0 (λ e. n 0 (omega arith) (sym e)) in
    let later = place_none k ps (λ i h. n (suc i) (omega arith)) in
    grind arith

distinct_from : (xs : List ℕ) → ((i j : ℕ) → i < j → j < length xs → get_or xs i 0 ≢ get_or xs j 0) → IsDistinct eqb xs
distinct_from xs n = IsDistinct-from_apart eqb xs (λ i j d h g. false_from_ne_true (eqb (get_or xs i d) (get_or xs j d)) (λ e.
    n i j h g (sym (get_or_default_zero xs i d (omega arith)) ∙ eqb-true (get_or xs i d) (get_or xs j d) e ∙ get_or_default_zero xs j d g)))

below_from : (xs : List ℕ) (n : ℕ) → ((i : ℕ) → i < length xs → get_or xs i 0 < n) → (q : ℕ) → list_any (eqb q) xs ≡ true → q < n
below_from [] n f q e = cc
below_from (x ∷ xs) n f q e =
    let here = f 0 (omega arith) in grind (arith, eqb-true, here, below_from xs n (λ i h. f (suc i) (omega arith)) q)

module _ {m : Tree → ℕ} (k : Tree) (rs : List ℕ) (ps : Pairs) (a : AreRanked m rs ps) where
  gap_apart : (r : ℕ) → IsRankGap m k rs ps r → (s : ℕ) → s < length rs → key_of_rank rs ps s ≢ k
  gap_apart r gap s h e = let tied = tied_itself (key_cmp_total m) k in grind (arith, cases_lt, tied)

  absent_at : (r : ℕ) → IsRankGap m k rs ps r → (p : ℕ) → p < length ps → key_at ps p ≢ k
  absent_at r gap p h e =
      let count = length-le_from_distinct_below (p ∷ rs) (length ps) (distinct_from (p ∷ rs) apart) (below_from (p ∷ rs) (length ps) within) in
      absurd (omega (arith, count, a.counted))
    where
      apart : (i j : ℕ) → i < j → j < length (p ∷ rs) → get_or (p ∷ rs) i 0 ≢ get_or (p ∷ rs) j 0
      apart i zero l g = absurd (omega arith)
      apart zero (suc j) l g = λ f. gap_apart r gap j (omega arith) (ap (key_at ps) (sym f) ∙ e)
      apart (suc i) (suc j) l g = rising_apart rs ps a i j (omega arith) (omega arith)

      within : (i : ℕ) → i < length (p ∷ rs) → get_or (p ∷ rs) i 0 < length ps
      within zero g = h
      within (suc i) g = a.within i (omega arith)

  pub gap_none : (r : ℕ) → IsRankGap m k rs ps r → None ≡ place_of k ps
  gap_none r gap = place_none k ps (absent_at r gap)
