-- Blocks as one row: what is at a spot, and what a change of a block does to the row.
use Rattle.yaml_tree.proofs.IndexCommon.{[], ap, append-nil, append_assoc, AreFilled, AreRising, arith, binary_digits, cases_lt, digest_at, drop, drop_all, Entry, get_or, get_or-insert_below, get_or_default, halved, head_at, inl, inr, insert, insert-append_left, insert-append_right, insert_end, IsEdge, IsNarrowed, joined, length, length-append, length-insert, length-map, length-set, length-take, List, map, map-append, number_at, refl, remove, remove-append_left, remove-append_right, set, start, suc, sym, take, take-append-drop, take_all, take_at, zero, ℕ, ◌++◌, ◌+◌, ◌-◌, ◌<◌, ◌∙◌, ◌∷◌, ◌≡◌, ◌≤◌}
use Rattle.yaml_tree.proofs.Halving.{digits_some}

-- ---- entries by number

pub number_got : (f : Entry → ℕ) (es : List Entry) (i : ℕ) (d : Entry) → i < length es → f (get_or es i d) ≡ number_at f es i
number_got f [] i d h = absurd (omega arith)
number_got f (e ∷ es) i d h = grind (arith, number_got f es)

number_left : (f : Entry → ℕ) (es fs : List Entry) (i : ℕ) → i < length es → number_at f (es ++ fs) i ≡ number_at f es i
number_left f [] fs i h = absurd (omega arith)
number_left f (e ∷ es) fs i h = grind (arith, number_left f es fs)

number_right : (f : Entry → ℕ) (es fs : List Entry) (i n : ℕ) → n ≡ length es + i → number_at f (es ++ fs) n ≡ number_at f fs i
number_right f [] fs i n h = ap (number_at f fs) (omega (arith, h))
number_right f (e ∷ es) fs i n h = grind (arith, number_right f es fs)

-- ---- where a block starts

pub start_all : (bs : List (List Entry)) (n : ℕ) → length bs ≤ n → start bs n ≡ length (joined bs)
start_all [] n h = refl
start_all (b ∷ bs) n h = grind (arith, start_all bs, length-append b (joined bs))

pub not_past : (bs : List (List Entry)) (i j : ℕ) → start bs i + j < length (joined bs) → i < length bs
not_past bs i j h = grind (arith, cases_lt i (length bs), start_all)

pub start_within : (bs : List (List Entry)) (n : ℕ) → start bs n ≤ length (joined bs)
start_within [] n = omega arith
start_within (b ∷ bs) n = grind (arith, start_within bs, length-append b (joined bs))

pub start_zero : (bs : List (List Entry)) → start bs 0 ≡ 0
start_zero [] = refl
start_zero (b ∷ bs) = refl

pub start_next : (bs : List (List Entry)) (i n : ℕ) → n ≡ suc i → start bs n ≡ start bs i + length (get_or bs i [])
start_next [] i n e = omega arith
start_next (b ∷ bs) i n e = grind (arith, start_next bs, start_zero bs)

pub rank_within : (bs : List (List Entry)) (i j : ℕ) → j ≤ length (get_or bs i []) → start bs i + j ≤ length (joined bs)
rank_within bs i j h = omega (arith, start_next bs i (suc i) refl, start_within bs (suc i))

pub rank_inside : (bs : List (List Entry)) (i j : ℕ) → j < length (get_or bs i []) → start bs i + j < length (joined bs)
rank_inside bs i j h = omega (arith, start_next bs i (suc i) refl, start_within bs (suc i))

-- ---- what is at a spot

pub number_in : (f : Entry → ℕ) (bs : List (List Entry)) (i j : ℕ) → i < length bs → j < length (get_or bs i []) → number_at f (joined bs) (start bs i + j) ≡ number_at f (get_or bs i []) j
number_in f [] i j h g = absurd (omega arith)
number_in f (b ∷ bs) zero j h g = ap (number_at f (b ++ joined bs)) (omega arith) ∙ number_left f b (joined bs) j g
number_in f (b ∷ bs) (suc i) j h g = number_right f b (joined bs) (start bs i + j) _ (omega arith) ∙ number_in f bs i j (omega arith) g

pub digest_in : (bs : List (List Entry)) (i j : ℕ) → i < length bs → j < length (get_or bs i []) → digest_at (joined bs) (start bs i + j) ≡ digest_at (get_or bs i []) j
digest_in bs i j h g = number_in (λ e. e.digest) bs i j h g

-- what is read at a spot
pub block_read : {xs bs : List (List Entry)} {i : ℕ} {b : List Entry} → xs ≡ bs → i < length bs → b ≡ get_or xs i b → b ≡ get_or bs i []
block_read {bs = bs} {i = i} {b = b} v h e = e ∙ ap (λ ys. get_or ys i b) v ∙ get_or_default bs i b [] h

module _ {xs bs : List (List Entry)} {i : ℕ} {b : List Entry} (v : xs ≡ bs) (h : i < length bs) (e : b ≡ get_or xs i b) where
  pub spot_digest : (j : ℕ) {d : ℕ} → j < length b → d ≡ digest_at b j → digest_at (joined bs) (start bs i + j) ≡ d
  spot_digest j g is =
      let read = block_read v h e in
      digest_in bs i j h (omega (arith, ap length read)) ∙ sym (is ∙ ap (λ b. digest_at b j) read)

  -- after the last block there are no entries
  pub last_block : length bs ≡ suc i → start bs i + length b ≡ length (joined bs)
  last_block last = omega (arith, ap length (block_read v h e), start_next bs i (suc i) refl, start_all bs (suc i) (omega arith))

  -- after the last entry of a block comes the first of the next
  pub next_digest : {d : ℕ} {c : List Entry} → AreFilled bs → i + 1 < length bs → c ≡ get_or xs (i + 1) c → d ≡ digest_at c 0
      → digest_at (joined bs) (start bs i + length b) ≡ d
  next_digest {d} {c} a next f is =
      let other = block_read v next f in
      ap (digest_at (joined bs)) (omega (arith, start_next bs i (i + 1) (omega arith), ap length (block_read v h e)))
      ∙ digest_in bs (i + 1) 0 next (a (i + 1) next) ∙ sym (is ∙ ap (λ b. digest_at b 0) other)

-- ---- a change of one block

pub joined_insert : (bs : List (List Entry)) (i j : ℕ) (e : Entry) → i < length bs → j ≤ length (get_or bs i []) → joined (set bs i (insert (get_or bs i []) j e)) ≡ insert (joined bs) (start bs i + j) e
joined_insert [] i j e h g = absurd (omega arith)
joined_insert (b ∷ bs) zero j e h g = grind (arith, insert-append_left b (joined bs) j e)
joined_insert (b ∷ bs) (suc i) j e h g = grind (arith, joined_insert bs i j e, insert-append_right b (joined bs) (length b) (length b + start bs i + j) e)

pub joined_push : (bs : List (List Entry)) (e : Entry) (n : ℕ) → n ≡ length (joined bs) → joined (bs ++ (e ∷ []) ∷ []) ≡ insert (joined bs) n e
joined_push bs e n h = at_end bs ∙ sym (insert_end (joined bs) e) ∙ ap (λ m. insert (joined bs) m e) (sym h)
  where
    at_end : (bs : List (List Entry)) → joined (bs ++ (e ∷ []) ∷ []) ≡ joined bs ++ e ∷ []
    at_end [] = refl
    at_end (b ∷ bs) = ap (λ es. b ++ es) (at_end bs) ∙ sym (append_assoc b (joined bs) (e ∷ []))

pub joined_remove : (bs : List (List Entry)) (i j : ℕ) → i < length bs → j < length (get_or bs i []) → joined (set bs i (remove (get_or bs i []) j)) ≡ remove (joined bs) (start bs i + j)
joined_remove [] i j h g = absurd (omega arith)
joined_remove (b ∷ bs) zero j h g = grind (arith, remove-append_left b (joined bs) j)
joined_remove (b ∷ bs) (suc i) j h g = grind (arith, joined_remove bs i j, remove-append_right b (joined bs) (length b) (length b + start bs i + j))

-- a block of one entry goes
pub joined_without : (bs : List (List Entry)) (i n : ℕ) → i < length bs → length (get_or bs i []) ≡ 1 → n ≡ start bs i → joined (remove bs i) ≡ remove (joined bs) n
joined_without [] i n h one e = absurd (omega arith)
joined_without ((x ∷ []) ∷ bs) zero n h one e = ap (remove (x ∷ joined bs)) (sym e)
joined_without (b ∷ bs) (suc i) n h one e = grind (arith, joined_without bs i (n - length b), remove-append_right b (joined bs) (length b) n)
joined_without (b ∷ bs) zero n h one e = absurd (omega arith)

-- ---- a block becomes two

pub joined_halved : (bs : List (List Entry)) (i n h : ℕ) → n ≡ suc i → i < length bs → joined (halved bs i n h) ≡ joined bs
joined_halved (b ∷ bs) zero (suc n) h e g = grind (arith, append_assoc (take h b) (drop h b) (joined bs), take-append-drop h b)
joined_halved (b ∷ bs) (suc i) (suc n) h e g = grind (arith, joined_halved bs)
joined_halved bs i n h e g = absurd (omega arith)

pub start_halved : (bs : List (List Entry)) (i n h : ℕ) → n ≡ suc i → i < length bs → start (halved bs i n h) i ≡ start bs i
start_halved (b ∷ bs) i (suc n) h e g = grind (arith, start_halved bs)
start_halved bs i n h e g = absurd (omega arith)

pub first_halved : (bs : List (List Entry)) (i n h : ℕ) → n ≡ suc i → i < length bs → get_or (halved bs i n h) i [] ≡ take h (get_or bs i [])
first_halved (b ∷ bs) i (suc n) h e g = grind (arith, first_halved bs)
first_halved bs i n h e g = absurd (omega arith)

pub length-halved : (bs : List (List Entry)) (i n h : ℕ) → n ≡ suc i → i < length bs → length (halved bs i n h) ≡ length bs + 1
length-halved bs i n h e g = length-insert (set bs i (take h (get_or bs i []))) n (drop h (get_or bs i [])) (omega (arith, length-set bs i (take h (get_or bs i [])))) ∙ ap (λ m. m + 1) (length-set bs i (take h (get_or bs i [])))

pub start_second : (bs : List (List Entry)) (i n h : ℕ) → n ≡ suc i → i < length bs → h ≤ length (get_or bs i []) → start (halved bs i n h) n ≡ start bs i + h
start_second bs i n h e g l =
    omega (arith, start_next (halved bs i n h) i n e, start_halved bs i n h e g, ap length (first_halved bs i n h e g), length-take h (get_or bs i []))

-- ---- every entry is changed

pub joined_map : (f : Entry → Entry) (bs : List (List Entry)) → joined (map (map f) bs) ≡ map f (joined bs)
joined_map f [] = refl
joined_map f (b ∷ bs) = ap (λ es. map f b ++ es) (joined_map f bs) ∙ sym (map-append f b (joined bs))

pub filled_map : (f : Entry → Entry) (bs : List (List Entry)) → AreFilled bs → AreFilled (map (map f) bs)
filled_map f [] a i h = absurd (omega arith)
filled_map f (b ∷ bs) a i h = grind (arith, a 0 (omega arith), length-map b f, filled_map f bs (λ j g. a (suc j) (omega arith)))

pub start_rises : (bs : List (List Entry)) (i j : ℕ) → i ≤ j → start bs i ≤ start bs j
start_rises [] i j h = omega arith
start_rises (b ∷ bs) i j h = grind (arith, start_rises bs)

-- ---- how many blocks there are, and how long each is

pub filled_counted : (bs : List (List Entry)) → AreFilled bs → length bs ≤ length (joined bs)
filled_counted [] a = omega arith
filled_counted (b ∷ bs) a = omega (arith, a 0 (omega arith), filled_counted bs (λ i h. a (suc i) (omega arith)), length-append b (joined bs))

pub filled_digits : (bs : List (List Entry)) → AreFilled bs → 0 < length bs → 0 < binary_digits (length (joined bs))
filled_digits bs a h = digits_some (length (joined bs)) (omega (arith, filled_counted bs a))

-- the other blocks have at least one entry each
pub filled_beside : (bs : List (List Entry)) (i : ℕ) → AreFilled bs → i < length bs → length bs + length (get_or bs i []) ≤ length (joined bs) + 1
filled_beside [] i a h = absurd (omega arith)
filled_beside (b ∷ bs) zero a h = omega (arith, filled_counted bs (λ j g. a (suc j) (omega arith)), length-append b (joined bs))
filled_beside (b ∷ bs) (suc i) a h = omega (arith, a 0 (omega arith), filled_beside bs i (λ j g. a (suc j) (omega arith)) (omega arith), length-append b (joined bs))

-- ---- where digests reach a number

pub edge_first : (bs : List (List Entry)) (m k : ℕ) → AreFilled bs → IsEdge (head_at bs) (length bs) m k → k ≡ 0 → IsEdge (digest_at (joined bs)) (length (joined bs)) m (start bs 0 + 0)
edge_first bs m k a heads e = record {
  counted = rank_within bs 0 0 (omega arith);
  below = λ i f. absurd (omega (arith, start_zero bs));
  from = λ h. let some = not_past bs 0 0 h in omega (arith, digest_in bs 0 0 some (a 0 some), heads.from (omega arith), ap (head_at bs) e);
}

pub edge_joined : (bs : List (List Entry)) (m k i j : ℕ) → AreFilled bs → IsEdge (head_at bs) (length bs) m k → k ≡ suc i
    → IsEdge (digest_at (get_or bs i [])) (length (get_or bs i [])) m j → IsEdge (digest_at (joined bs)) (length (joined bs)) m (start bs i + j)
edge_joined bs m k i j a heads e inside = record {
  counted = rank_within bs i j inside.counted;
  below = λ r f. low j inside r f;
  from = λ h. elim (cases_lt j (length (get_or bs i []))) [
    | inl g ↦ omega (arith, digest_in bs i j there g, inside.from g)
    | inr g ↦
        let same : start bs i + j ≡ start bs k + 0 = omega (arith, start_next bs i k e, inside.counted) in
        let next = not_past bs k 0 (omega arith) in
        omega (arith, ap (digest_at (joined bs)) same, digest_in bs k 0 next (a k next), heads.from next)
  ];
}
  where
    there : i < length bs
    there = omega (arith, heads.counted)

    low : (j : ℕ) → IsEdge (digest_at (get_or bs i [])) (length (get_or bs i [])) m j → (r : ℕ) → suc r ≡ start bs i + j → digest_at (joined bs) r < m
    low zero inside r f = absurd (omega (arith, inside.from (a i there), heads.below i (sym e)))
    low (suc j) inside r f =
        let same : r ≡ start bs i + j = omega arith in
        omega (arith, ap (digest_at (joined bs)) same, digest_in bs i j there (omega (arith, inside.counted)), inside.below j refl)

pub edges_rise : (es : List Entry) (m n j k : ℕ) → AreRising es → IsEdge (digest_at es) (length es) m j → IsEdge (digest_at es) (length es) n k → m ≤ n → j ≤ k
edges_rise es m n zero k a d e h = omega arith
edges_rise es m n (suc j) k a d e h = grind (arith, cases_lt k (suc j), d.below j refl, a k j)

-- between the first entry with a digest and the first with a higher one, all have this digest
pub edges_narrow : (es : List Entry) (m n j k count : ℕ) → AreRising es → IsEdge (digest_at es) (length es) m j → IsEdge (digest_at es) (length es) n k → n ≡ m + 1 → j + count ≡ k
    → IsNarrowed es m j count
edges_narrow es m n j k count a d e next c = record {
  within = omega (arith, e.counted);
  below = d.below;
  inside = λ i h g.
      let last = a i (k - 1) (omega arith) (omega (arith, e.counted)) in
      omega (arith, d.from (omega (arith, e.counted)), a j i h (omega (arith, e.counted)), e.below (k - 1) (omega arith));
  above = λ h. omega (arith, ap (digest_at es) c, e.from (omega arith));
}

-- no entry from the first with a digest on has it
pub edge_past : (es : List Entry) (m j : ℕ) → IsEdge (digest_at es) (length es) m j → (j < length es → m < digest_at es j) → IsNarrowed es m j 0
edge_past es m j d h = record {
  within = omega (arith, d.counted);
  below = d.below;
  inside = λ i f g. absurd (omega arith);
  above = λ g. let same : j + 0 ≡ j = omega arith in omega (arith, h (omega arith), ap (digest_at es) same);
}

-- ---- changes of a list of blocks

pub set_before : (bs : List (List Entry)) (i n : ℕ) (b u : List Entry) → n ≡ suc i → i < length bs → set (insert bs n u) i b ≡ insert (set bs i b) n u
set_before (c ∷ bs) i (suc n) b u e h = grind (arith, set_before bs)
set_before bs i n b u e h = absurd (omega arith)

-- a block's upper half is put after it, and it keeps the lower one
pub halved_made : (xs : List (List Entry)) {ys : List (List Entry)} (i h : ℕ) {upper whole lower : List Entry} → i < length xs → ys ≡ insert xs (i + 1) upper
    → upper ≡ drop h (get_or xs i []) → whole ≡ get_or ys i whole → lower ≡ take h whole → set ys i lower ≡ halved xs i (i + 1) h
halved_made xs {ys} i h {upper} {whole} {lower} l put u w low =
    let next : i + 1 ≡ suc i = omega arith in
    let read = block_read put (omega (arith, length-insert xs (i + 1) upper (omega arith))) w ∙ get_or-insert_below xs (i + 1) upper [] i (omega arith) (omega arith) in
    rw (put, set_before xs i (i + 1) lower upper next l, low, read, u) refl

pub lent_back : {X : Type 0} (n : ℕ) (xs ys : List X) → length xs ≡ n → take n (xs ++ drop (length xs) ys) ≡ xs
lent_back n xs ys e = take_at xs (drop (length xs) ys) n e

-- of a loop over all blocks that has come to its end
pub all_lent : (f : List Entry → List Entry) (n : ℕ) {len : ℕ} {xs ws ys : List (List Entry)} → ys ≡ map f (take n ws) ++ drop n ws → length ys ≡ length ws
    → length ws ≤ n → ws ≡ xs → len ≡ length xs → take len (ys ++ drop (length ys) xs) ≡ map f xs
all_lent f n {len} {xs} {ws} {ys} e l h is k =
    lent_back len ys xs (omega (arith, ap length is)) ∙ e ∙ (λ i. map f (take_all n ws h i) ++ drop_all n ws h i) ∙ append-nil (map f ws) ∙ ap (map f) is
