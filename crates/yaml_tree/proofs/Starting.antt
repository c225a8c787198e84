-- Starts of blocks: what a change of the blocks makes of them.
use Rattle.yaml_tree.proofs.IndexCommon.{[], ap, AreApart, AreCounted, AreFilled, AreStarts, arith, cases_lt, drop, Entry, get_or, get_or-insert_below, get_or_append_left, get_or_push, get_or_read, halved, head_length, inl, inr, insert, insert_end, joined, length, length-append, length-drop, length-insert, length-map, length-remove, length-set, length-take, List, map, refl, remove, set, start, subst, suc, take, take-append-drop, zero, ℕ, ◌*◌, ◌++◌, ◌+◌, ◌-◌, ◌/◌, ◌<◌, ◌^◌, ◌∙◌, ◌∷◌, ◌≡◌, ◌≤◌}
use Rattle.std.proofs.lemmas.Grind.{get_or-set_at}
use Rattle.std.proofs.lemmas.List.{get_or-set_other}
use Rattle.std.proofs.lemmas.List.Edits.{get_or-insert_at, get_or-insert_above, get_or-remove_below, get_or-remove_above}
use Rattle.yaml_tree.proofs.Joining.{start_zero, start_all, start_within, start_next, start_rises, rank_inside, rank_within, filled_map, length-halved, joined_halved, joined_insert, joined_map, joined_push, joined_remove, joined_without}

-- ---- before a change and after it

pub start_set_before : (bs : List (List Entry)) (i n : ℕ) (b : List Entry) → n ≤ i → start (set bs i b) n ≡ start bs n
start_set_before [] i n b h = refl
start_set_before (c ∷ bs) i n b h = grind (arith, start_set_before bs, start_zero)

pub start_set_after : (bs : List (List Entry)) (i n : ℕ) (b : List Entry) → i < length bs → i < n → start (set bs i b) n + length (get_or bs i []) ≡ start bs n + length b
start_set_after [] i n b h g = absurd (omega arith)
start_set_after (c ∷ bs) i n b h g = grind (arith, start_set_after bs)

pub start_push_before : (bs : List (List Entry)) (b : List Entry) (n : ℕ) → n ≤ length bs → start (bs ++ b ∷ []) n ≡ start bs n
start_push_before [] b n h = grind arith
start_push_before (c ∷ bs) b n h = grind (arith, start_push_before bs b)

pub start_push_after : (bs : List (List Entry)) (b : List Entry) (n : ℕ) → length bs < n → start (bs ++ b ∷ []) n ≡ start bs n + length b
start_push_after [] b n h = grind arith
start_push_after (c ∷ bs) b n h = grind (arith, start_push_after bs b)

pub start_remove_before : (bs : List (List Entry)) (i n : ℕ) → n ≤ i → start (remove bs i) n ≡ start bs n
start_remove_before [] zero n h = refl
start_remove_before [] (suc i) n h = refl
start_remove_before (c ∷ bs) zero n h = grind (arith, start_zero)
start_remove_before (c ∷ bs) (suc i) n h = grind (arith, start_remove_before bs i)

pub start_remove_after : (bs : List (List Entry)) (i n : ℕ) → i < length bs → i ≤ n → start (remove bs i) n + length (get_or bs i []) ≡ start bs (suc n)
start_remove_after [] i n h g = absurd (omega arith)
start_remove_after (c ∷ bs) zero n h g = omega arith
start_remove_after (c ∷ bs) (suc i) n h g = grind (arith, start_remove_after bs i)

pub start_halved_before : (bs : List (List Entry)) (i n h k : ℕ) → n ≡ suc i → i < length bs → k ≤ i → start (halved bs i n h) k ≡ start bs k
start_halved_before (b ∷ bs) i (suc n) h k e g l = grind (arith, start_halved_before bs)
start_halved_before bs i n h k e g l = absurd (omega arith)

-- a block that was after is one place on
pub start_halved_after : (bs : List (List Entry)) (i n h k : ℕ) → n ≡ suc i → i < length bs → i < k → start (halved bs i n h) (suc k) ≡ start bs k
start_halved_after (b ∷ bs) zero (suc n) h k e g l = grind (arith, ap length (take-append-drop h b), length-append (take h b) (drop h b))
start_halved_after (b ∷ bs) (suc i) (suc n) h k e g l = grind (arith, start_halved_after bs)
start_halved_after bs i n h k e g l = absurd (omega arith)

pub start_map : (f : Entry → Entry) (bs : List (List Entry)) (n : ℕ) → start (map (map f) bs) n ≡ start bs n
start_map f [] n = refl
start_map f (b ∷ bs) n = grind (arith, length-map b f, start_map f bs)

-- ---- no block is empty

pub filled_set : (bs : List (List Entry)) (i : ℕ) (b : List Entry) → AreFilled bs → 0 < length b → AreFilled (set bs i b)
filled_set bs i b a h j g = grind (arith, get_or-set_at, get_or-set_other, length-set)

pub filled_insert : (bs : List (List Entry)) (i : ℕ) (b : List Entry) → AreFilled bs → 0 < length b → i ≤ length bs → AreFilled (insert bs i b)
filled_insert bs i b a h e j g = grind (arith, get_or-insert_below, get_or-insert_at, above, length-insert)
  where
    above : (k : ℕ) → i < k → get_or (insert bs i b) k [] ≡ get_or bs (k - 1) []
    above k f = ap (λ m. get_or (insert bs i b) m []) (omega arith) ∙ get_or-insert_above bs i b [] (k - 1) (omega arith) e

pub filled_push : (bs : List (List Entry)) (b : List Entry) → AreFilled bs → 0 < length b → AreFilled (bs ++ b ∷ [])
filled_push bs b a h = subst AreFilled (insert_end bs b) (filled_insert bs (length bs) b a h (omega arith))

pub filled_remove : (bs : List (List Entry)) (i : ℕ) → i < length bs → AreFilled bs → AreFilled (remove bs i)
filled_remove bs i h a j g = grind (arith, get_or-remove_below, get_or-remove_above, length-remove)

-- ---- the starts that are kept

pub starts_some : {bs : List (List Entry)} {starts : List ℕ} → AreStarts bs starts → 0 < length starts
starts_some a = omega (arith, a.enough)

-- starts that are right before a group and right from it on
starts_split : (bs : List (List Entry)) (starts : List ℕ) (first : ℕ) → length bs + 16 ≤ 16 * length starts
    → ((g : ℕ) → g < length starts → g < first → get_or starts g 0 ≡ start bs (16 * g))
    → ((g : ℕ) → g < length starts → first ≤ g → get_or starts g 0 ≡ start bs (16 * g))
    → AreStarts bs starts
starts_split bs starts first enough before after =
    record { enough = enough; each = λ g h. elim (cases_lt g first) [ inl k ↦ before g h k | inr k ↦ after g h k ] }

-- the last start counts all entries
pub starts_all : {bs : List (List Entry)} {starts : List ℕ} (g : ℕ) → AreStarts bs starts → suc g ≡ length starts → get_or starts g 0 ≡ length (joined bs)
starts_all {bs} g a e = a.each g (omega arith) ∙ start_all bs (16 * g) (omega (arith, a.enough))

-- the last start, as it is read
pub last_counts : {bs cs : List (List Entry)} (starts : List ℕ) (n last : ℕ) → AreStarts bs starts → bs ≡ cs → n ≡ length starts → last ≡ get_or starts (n - 1) last → last ≡ length (joined cs)
last_counts starts n last a same e read =
    let some = starts_some a in
    get_or_read starts (n - 1) last (omega arith) read 0 ∙ starts_all (n - 1) a (omega arith) ∙ ap (λ xs. length (joined xs)) same

-- a start and its block are within all entries
pub start_head : {bs : List (List Entry)} {starts : List ℕ} (g : ℕ) → AreStarts bs starts → g < length starts → get_or starts g 0 + head_length bs g ≤ length (joined bs)
start_head {bs} g a h = omega (arith, a.each g h, start_next bs (16 * g) (suc (16 * g)) refl, start_within bs (suc (16 * g)))

pub starts_pushed : (bs : List (List Entry)) (starts : List ℕ) (last n : ℕ) → AreStarts bs starts → suc n ≡ length starts → last ≡ get_or starts n 0 → AreStarts bs (starts ++ last ∷ [])
starts_pushed bs starts last n a e l =
    let longer = length-append starts (last ∷ []) in
    starts_split bs (starts ++ last ∷ []) (length starts) (omega (arith, a.enough))
    (λ g h k. get_or_append_left starts (last ∷ []) 0 g k ∙ a.each g k)
    (λ g h k. omega (arith, get_or_push starts last 0 g (omega arith), starts_all n a e, start_all bs (16 * g) (omega (arith, a.enough))))

module _ {bs : List (List Entry)} {olds news : List ℕ} where
  -- ---- one change of the blocks, and that of the starts which goes with it

  -- block i has an entry more
  pub counted_inserted : (i j : ℕ) (e : Entry) → AreCounted bs olds → AreApart (λ _. 1) (i / 16 + 1) (length olds) olds news → i < length bs
      → j ≤ length (get_or bs i []) → length (joined bs) + 1 < 2 ^ 64 → AreCounted (set bs i (insert (get_or bs i []) j e)) news
  counted_inserted i j e a d h l r =
      let b = insert (get_or bs i []) j e in
      let more = length-insert (get_or bs i []) j e l in
      record {
        filled = filled_set bs i b a.filled (omega arith);
        right = starts_split (set bs i b) news (i / 16 + 1) (omega (arith, a.right.enough, d.count, length-set bs i b))
            (λ g k f. omega (arith, d.before g f, a.right.each g (omega (arith, d.count)), start_set_before bs i (16 * g) b (omega arith)))
            (λ g k f.
            let old = a.right.each g (omega (arith, d.count)) in
            omega (arith, d.inside g f (omega (arith, d.count)), start_set_after bs i (16 * g) b h (omega arith)));
        fits = omega (arith, ap length (joined_insert bs i j e h l), length-insert (joined bs) (start bs i + j) e (rank_within bs i j l));
      }

  -- a block of one entry comes after all
  pub counted_pushed : (e : Entry) → AreFilled bs → AreStarts bs olds → AreApart (λ _. 1) (length bs / 16 + 1) (length olds) olds news
      → length bs + 1 + 16 ≤ 16 * length olds → length (joined bs) + 1 < 2 ^ 64 → AreCounted (bs ++ (e ∷ []) ∷ []) news
  counted_pushed e filled a d enough r = record {
    filled = filled_push bs (e ∷ []) filled (omega arith);
    right = starts_split (bs ++ (e ∷ []) ∷ []) news (length bs / 16 + 1) (omega (arith, d.count, length-append bs ((e ∷ []) ∷ [])))
        (λ g k f. omega (arith, d.before g f, a.each g (omega (arith, d.count)), start_push_before bs (e ∷ []) (16 * g) (omega arith)))
        (λ g k f.
        let old = a.each g (omega (arith, d.count)) in
        omega (arith, d.inside g f (omega (arith, d.count)), start_push_after bs (e ∷ []) (16 * g) (omega arith)));
    fits = omega (arith, ap length (joined_push bs e (length (joined bs)) refl), length-insert (joined bs) (length (joined bs)) e (omega arith));
  }

  -- block i has an entry less
  pub counted_removed : (i j : ℕ) → AreCounted bs olds → AreApart (λ _. 1) (i / 16 + 1) (length olds) news olds → i < length bs → j < length (get_or bs i [])
      → 1 < length (get_or bs i []) → AreCounted (set bs i (remove (get_or bs i []) j)) news
  counted_removed i j a d h l some =
      let b = remove (get_or bs i []) j in
      let less = length-remove (get_or bs i []) j l in
      record {
        filled = filled_set bs i b a.filled (omega arith);
        right = starts_split (set bs i b) news (i / 16 + 1) (omega (arith, a.right.enough, d.count, length-set bs i b))
            (λ g k f. omega (arith, d.before g f, a.right.each g (omega (arith, d.count)), start_set_before bs i (16 * g) b (omega arith)))
            (λ g k f.
            let old = a.right.each g (omega (arith, d.count)) in
            omega (arith, d.inside g f (omega (arith, d.count)), start_set_after bs i (16 * g) b h (omega arith)));
        fits = omega (arith, ap length (joined_remove bs i j h l), length-remove (joined bs) (start bs i + j) (rank_inside bs i j l), a.fits);
      }

  -- block i becomes two
  pub counted_halved : (i h : ℕ) → AreFilled bs → AreStarts bs olds → length (joined bs) < 2 ^ 64
      → AreApart (head_length (halved bs i (i + 1) h)) (i / 16 + 1) (length olds) news olds → i < length bs → 0 < h → h < length (get_or bs i [])
      → length bs + 1 + 16 ≤ 16 * length olds → AreCounted (halved bs i (i + 1) h) news
  counted_halved i h filled a r d l some more enough =
      let b = get_or bs i [] in
      let cs = halved bs i (i + 1) h in
      let next : i + 1 ≡ suc i = omega arith in
      record {
        filled = filled_insert (set bs i (take h b)) (i + 1) (drop h b) (filled_set bs i (take h b) filled (omega (arith, length-take h b)))
            (omega (arith, length-drop h b)) (omega (arith, length-set bs i (take h b)));
        right = starts_split cs news (i / 16 + 1) (omega (arith, d.count, length-halved bs i (i + 1) h next l))
            (λ g k f. omega (arith, d.before g f, a.each g (omega (arith, d.count)), start_halved_before bs i (i + 1) h (16 * g) next l (omega arith)))
            (λ g k f.
            let old = a.each g (omega (arith, d.count)) in
            let first = start_next cs (16 * g) (suc (16 * g)) refl in
            omega (arith, d.inside g f (omega (arith, d.count)), start_halved_after bs i (i + 1) h (16 * g) next l (omega arith)));
        fits = omega (arith, ap length (joined_halved bs i (i + 1) h next l));
      }

  -- block i, of one entry, goes
  pub counted_without : {mids : List ℕ} (i : ℕ) → AreCounted bs olds → AreApart (head_length bs) (i / 16 + 1) (length olds) olds mids
      → AreApart (λ _. 1) (i / 16 + 1) (length mids) news mids → i < length bs → length (get_or bs i []) ≡ 1 → AreCounted (remove bs i) news
  counted_without i a up down h one = record {
    filled = filled_remove bs i h a.filled;
    right = starts_split (remove bs i) news (i / 16 + 1) (omega (arith, a.right.enough, up.count, down.count, length-remove bs i h))
        (λ g l b. omega (arith, up.before g b, down.before g b, a.right.each g (omega (arith, up.count, down.count)), start_remove_before bs i (16 * g) (omega arith)))
        (λ g l b.
        let within : g < length olds = omega (arith, up.count, down.count) in
        omega (arith, up.inside g b within, down.inside g b (omega (arith, up.count)), a.right.each g within, start_remove_after bs i (16 * g) h (omega arith), start_next bs (16 * g) (suc (16 * g)) refl));
    fits = omega (arith, ap length (joined_without bs i (start bs i) h one refl), length-remove (joined bs) (start bs i) (omega (arith, rank_inside bs i 0 (omega arith))), a.fits);
  }

-- the entries are others, and as many
pub counted_map : (f : Entry → Entry) {bs : List (List Entry)} {starts : List ℕ} → AreCounted bs starts → AreCounted (map (map f) bs) starts
counted_map f {bs} a = record {
  filled = filled_map f bs a.filled;
  right = record {
    enough = omega (arith, a.right.enough, length-map bs (map f));
    each = λ g h. omega (arith, a.right.each g h, start_map f bs (16 * g));
  };
  fits = omega (arith, ap length (joined_map f bs), length-map (joined bs) f, a.fits);
}

-- ---- what the calls on starts ask

module _ {bs : List (List Entry)} {starts : List ℕ} (a : AreStarts bs starts) where
  -- no start is so high that it can't count one more
  pub can_rise : {n : ℕ} → length (joined bs) + 1 < n → (g : ℕ) → g < length starts → get_or starts g 0 + 1 < n
  can_rise h g k = omega (arith, start_head g a k)

  -- after a block that isn't empty no start is 0
  pub can_fall : (i : ℕ) → 0 < length (get_or bs i []) → (g : ℕ) → i / 16 + 1 ≤ g → g < length starts → 0 < get_or starts g 0
  can_fall i some g k l = omega (arith, a.each g l, start_next bs i (suc i) refl, start_rises bs (suc i) (16 * g) (omega arith))

  -- after two halves a start is at least the length of its block
  pub can_subtract : (i h : ℕ) → i < length bs → (g : ℕ) → i / 16 + 1 ≤ g → g < length starts → head_length (halved bs i (i + 1) h) g ≤ get_or starts g 0
  can_subtract i h l g k m =
      omega (arith, a.each g m, start_next (halved bs i (i + 1) h) (16 * g) (suc (16 * g)) refl, start_halved_after bs i (i + 1) h (16 * g) (omega arith) l (omega arith))
