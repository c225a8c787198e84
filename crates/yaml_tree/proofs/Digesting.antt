-- Digests of keys: the ranks that they leave for a key, and how they stay those of their keys as pairs come and go.
use Rattle.yaml_tree.proofs.Common.{ap, AreDigests, AreRanked, AreRising, arith, cases_lt, closed_up, digest, digest_at, digest_of_entry, digests, Entry, Few, first_by, get_or, Greater, HaveRising, inl, inr, insert, IsWindow, joined, Kept, key_at, key_cmp, key_of_rank, length, length-insert, length-map, Less, List, Many, map, nat_tests, place_of_entry, places, refl, sym, Tree, tree_cmp, ◌+◌, ◌-◌, ◌<◌, ◌∙◌, ◌≡◌, ◌≤◌, ℕ}
use Rattle.yaml_tree.proofs.Indexed.{number_mapped}
use Rattle.yaml_tree.proofs.Ranking.{above_up_to, any_two, below_from_on, each_with, inserted_at, Pairs}

-- ---- keys by their numbers

module _ (m : Tree → ℕ) (s t : Tree) where
  higher_digest : m t < m s → key_cmp m s t ≡ Greater
  higher_digest h = grind (arith, nat_tests)

  pub lower_digest : m s < m t → key_cmp m s t ≡ Less
  lower_digest h = grind (arith, nat_tests)

  pub same_digest : m t ≡ m s → key_cmp m s t ≡ tree_cmp s t
  same_digest e = grind (arith, nat_tests)

  numbers_rise : key_cmp m s t ≡ Less → m s ≤ m t
  numbers_rise e = grind arith

-- ---- the digests that are kept

module _ (es : List Entry) (ps : Pairs) (digested : AreDigests (map digest_of_entry es) (map place_of_entry es) ps) where
  pub digested_key : (r : ℕ) → r < length es → digest_at es r ≡ digest (key_of_rank (map place_of_entry es) ps r)
  digested_key r h = sym (number_mapped digest_of_entry es r) ∙ digested r (omega (arith, length-map es digest_of_entry))

  pub entries_rise : ((i j : ℕ) → i < j → j < length (map place_of_entry es)
      → key_cmp digest (key_of_rank (map place_of_entry es) ps i) (key_of_rank (map place_of_entry es) ps j) ≡ Less) → AreRising es
  entries_rise ascending i j h g =
      let low = digested_key i (omega arith) in
      let high = digested_key j g in
      let rise = λ (f : i < j). numbers_rise digest (key_of_rank (map place_of_entry es) ps i) (key_of_rank (map place_of_entry es) ps j)
      (ascending i j f (omega (arith, length-map es place_of_entry))) in
      elim (cases_lt i j) [ inl f ↦ omega (arith, rise f) | inr f ↦ let same : i ≡ j = omega arith in omega (arith, ap (digest_at es) same) ]

pub kept_digests_rise : (o : Kept) (ps : Pairs) → AreRanked (first_by o) (places o) ps → AreDigests (digests o) (places o) ps → HaveRising o
kept_digests_rise (Few rs) ps a digested = tt
kept_digests_rise (Many b) ps a digested = entries_rise (joined b.value) ps digested a.ascending

-- ---- the ranks that digests leave for a key

-- keys before these ranks are lower than the key, those after are higher; those at them have its number
pub record AreLeft (m : Tree → ℕ) (k : Tree) (rs : List ℕ) (ps : Pairs) (rank count : ℕ) : Type 0 where
  pub within : rank + count ≤ length rs
  pub above : (r : ℕ) → r < rank → key_cmp m k (key_of_rank rs ps r) ≡ Greater
  pub same : (r : ℕ) → rank ≤ r → r < rank + count → m (key_of_rank rs ps r) ≡ m k
  pub below : (r : ℕ) → rank + count ≤ r → r < length rs → key_cmp m k (key_of_rank rs ps r) ≡ Less

pub window_leaves : (o : Kept) (k : Tree) (ps : Pairs) (rank count : ℕ) → AreRanked (first_by o) (places o) ps → AreDigests (digests o) (places o) ps → IsWindow o k rank count
    → AreLeft (first_by o) k (places o) ps rank count
window_leaves (Few rs) k ps rank count a digested w = grind arith
window_leaves (Many b) k ps rank count a digested w =
    let es = joined b.value in
    let rs = map place_of_entry es in
    let all = length-map es place_of_entry in
    record {
      within = omega (arith, w.within);
      above = λ r h.
          let last = digested_key es ps digested (rank - 1) (omega (arith, w.within)) in
          let higher = higher_digest digest k (key_of_rank rs ps (rank - 1)) (omega (arith, w.below (rank - 1) (omega arith))) in
          above_up_to rs ps a k (rank - 1) (omega (arith, w.within)) higher r (omega arith);
      same = λ r h g. sym (digested_key es ps digested r (omega (arith, w.within))) ∙ w.inside r h g;
      below = λ r h g.
          let next = digested_key es ps digested (rank + count) (omega arith) in
          let lower = lower_digest digest k (key_of_rank rs ps (rank + count)) (omega (arith, w.above (omega arith))) in
          below_from_on rs ps a k (rank + count) lower r h g;
    }

-- the key in the middle of what is left is not the key: what is left before it, and after it
module _ {m : Tree → ℕ} {k : Tree} {rs : List ℕ} {ps : Pairs} (a : AreRanked m rs ps) {rank count : ℕ} (l : AreLeft m k rs ps rank count) (half : ℕ) {r : ℕ}
    (at : r ≡ rank + half) (h : half < count) where
  by_key : key_cmp m k (key_of_rank rs ps r) ≡ tree_cmp k (key_of_rank rs ps r)
  by_key = same_digest m k (key_of_rank rs ps r) (l.same r (omega arith) (omega arith))

  pub left_before : tree_cmp k (key_of_rank rs ps r) ≡ Less → AreLeft m k rs ps rank half
  left_before e = record {
    within = omega (arith, l.within);
    above = l.above;
    same = λ s f g. l.same s f (omega arith);
    below = λ s f g. below_from_on rs ps a k r (by_key ∙ e) s (omega arith) g;
  }

  pub left_after : (next rest : ℕ) → next ≡ r + 1 → rest ≡ count - (half + 1) → tree_cmp k (key_of_rank rs ps r) ≡ Greater → AreLeft m k rs ps next rest
  left_after next rest n c e = record {
    within = omega (arith, l.within);
    above = λ s f. above_up_to rs ps a k r (omega (arith, l.within)) (by_key ∙ e) s (omega arith);
    same = λ s f g. l.same s (omega arith) (omega arith);
    below = λ s f g. l.below s (omega arith) g;
  }

-- ---- pairs come, go and move

pub digests_next : (ms rs : List ℕ) (ps : Pairs) (at m x : ℕ) → length ms ≡ length rs → at ≤ length rs → AreDigests ms rs ps → m ≡ digest (key_at ps x) → AreDigests (insert ms at m) (insert rs at x) ps
digests_next ms rs ps at m x e h digested its s g =
    let more = length-insert ms at m (omega arith) in
    let number = inserted_at ms at m (omega arith) s in
    let place = inserted_at rs at x h s in
    grind (arith, nat_tests, digested (closed_up at s))

-- ---- the pairs of a short hash, put one by one in the order of their digests

-- Ranks by digest, of the places that have the first r ranks by the order of trees alone.
pub record AreSorted (rs fs : List ℕ) (ps : Pairs) (r : ℕ) : Type 0 where
  pub counted : length rs ≡ r
  pub within : (s : ℕ) → s < length rs → get_or rs s 0 < length ps
  pub ascending : (s t : ℕ) → s < t → t < length rs → key_cmp digest (key_of_rank rs ps s) (key_of_rank rs ps t) ≡ Less
  pub lower : (t : ℕ) → r ≤ t → t < length fs → (s : ℕ) → s < length rs → tree_cmp (key_of_rank rs ps s) (key_of_rank fs ps t) ≡ Less

pub sorted_next : (rs fs : List ℕ) (ps : Pairs) (r at : ℕ) → AreSorted rs fs ps r → AreRanked (λ k. 0) fs ps → r < length fs → at ≤ length rs
    → ((s : ℕ) → s < at → digest (key_of_rank rs ps s) ≤ digest (key_of_rank fs ps r))
    → ((s : ℕ) → at ≤ s → s < length rs → digest (key_of_rank fs ps r) < digest (key_of_rank rs ps s))
    → AreSorted (insert rs at (get_or fs r 0)) fs ps (r + 1)
sorted_next rs fs ps r at a ranked inside h low high =
    let more = length-insert rs at x h in
    record {
      counted = omega (arith, a.counted);
      within = λ s l. each_with rs at x h (λ p. p < length ps) a.within (ranked.within r inside) s (omega arith);
      ascending = λ s t f l. any_two rs at x h (λ p q. key_cmp digest (key_at ps p) (key_at ps q) ≡ Less) a.ascending below
          (λ s l g. lower_digest digest (key_at ps x) (key_of_rank rs ps s) (high s l g)) s t f (omega arith);
      lower = λ t g l s f.
          let later = sym (same_digest (λ k. 0) (key_at ps x) (key_of_rank fs ps t) refl) ∙ ranked.ascending r t (omega arith) l in
          each_with rs at x h (λ p. tree_cmp (key_at ps p) (key_of_rank fs ps t) ≡ Less) (λ s e. a.lower t (omega arith) l s e) later s (omega arith);
    }
  where
    x : ℕ
    x = get_or fs r 0

    below : (s : ℕ) → s < at → key_cmp digest (key_of_rank rs ps s) (key_at ps x) ≡ Less
    below s l = grind (arith, x, lower_digest, same_digest, low, inside, h)
