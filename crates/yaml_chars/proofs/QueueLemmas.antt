-- Lemmas about the part of the buffer that contains the queue.
use Rattle.std.proofs.Common.{length-take-le}
use Rattle.yaml_chars.proofs.Common.{[], ap₂, arith, cases_lt, common_steps, drop, drop_more, get_or, get_or-append_right, get_or-drop, get_or-take, get_or_append_left, inl, inr, length, length-append, length-drop, length-set, List, mod-eq_of_lt, same_lists, set, take, ℕ, ◌%◌, ◌++◌, ◌+◌, ◌-◌, ◌<◌, ◌∙◌, ◌∷◌, ◌≡◌, ◌≤◌, ◌⊎◌}
use native.Mathlib.Nat.{mod-eq-sub-mod, mod-add-mod}
use Rattle.yaml_chars.specs.Queue.{queue}

-- an index below 2 N wraps once at most
mod_wraps_once : (N j : ℕ) → j < N + N → ((j < N) × (j % N ≡ j)) ⊎ ((N ≤ j) × (j % N ≡ j - N))
mod_wraps_once N j below = elim (cases_lt j N) [
  | inl low ↦ inl (low, mod-eq_of_lt low)
  | inr high ↦ inr (high, mod-eq-sub-mod high ∙ mod-eq_of_lt (omega arith))
]

module _ (N k n : ℕ) (xs : List ℕ) (start_in_range : k < N) (len_fits : n ≤ N) (length_xs : length xs ≡ N) where
  -- the queue has n items
  pub length-queue : length (queue k n xs) ≡ n
  length-queue = length-take-le n _ (simp (length-append, length-drop) (omega (arith, length-take-le k xs (omega arith))))

  -- item i of the queue is slot (k + i) % N, which is before the end of the buffer or past it
  pub get_or-queue : (i d : ℕ) → i < n → get_or (queue k n xs) i d ≡ get_or xs ((k + i) % N) d
  get_or-queue i d in_range =
      let length_tail = length-drop k xs in
      get_or-take n _ i d in_range
      ∙ grind (
        arith,
        mod_wraps_once N (k + i),
        get_or_append_left (drop k xs) (take k xs) d i,
        get_or-drop k xs i d,
        get_or-append_right (drop k xs) (take k xs) (N - k) i d,
        get_or-take k xs (i - (N - k)) d,
      )

-- A second block, since these use the lemmas above at other windows.
module _ (N k n : ℕ) (xs : List ℕ) (start_in_range : k < N) (len_fits : n ≤ N) (length_xs : length xs ≡ N) where
  -- a write after the last item adds it at the end; the two lists are compared item by item
  pub queue_after_push : (x : ℕ) → n < N → queue k (n + 1) (set xs ((k + n) % N) x) ≡ queue k n xs ++ x ∷ []
  queue_after_push x has_room =
      let ys = set xs ((k + n) % N) x in
      let length_ys = length-set xs ((k + n) % N) x ∙ length_xs in
      let length_old = length-queue N k n xs start_in_range len_fits length_xs in
      let length_new = length-queue N k (n + 1) ys start_in_range (omega arith) length_ys in
      let written_slot = mod_wraps_once N (k + n) (omega arith) in
      same_lists _ _ (grind (arith, common_steps)) (λ i d in_range. grind (
        arith,
        common_steps,
        mod_wraps_once N (k + i) (omega arith),
        get_or-queue N k n xs start_in_range len_fits length_xs i d,
        get_or-queue N k (n + 1) ys start_in_range (omega arith) length_ys i d,
      ))

  -- the queue is slot k, then the queue from the next slot; the tails are compared item by item
  pub queue_before_pop : 0 < n → queue k n xs ≡ get_or xs k 0 ∷ queue ((k + 1) % N) (n - 1) xs
  queue_before_pop nonempty =
      let next_in_range : (k + 1) % N < N = grind (arith, mod_wraps_once N (k + 1) (omega arith)) in
      let length_old = length-queue N k n xs start_in_range len_fits length_xs in
      let length_new = length-queue N ((k + 1) % N) (n - 1) xs next_in_range (omega arith) length_xs in
      let old_item = get_or-queue N k n xs start_in_range len_fits length_xs in
      drop_more _ 0 0 (omega arith) ∙ ap₂ ◌∷◌ (grind (arith, old_item 0 0, mod_wraps_once N k)) (same_lists _ _ (simp length-drop (omega arith)) (λ i d in_range. grind (
        arith,
        length-drop 1 (queue k n xs),
        get_or-drop 1 (queue k n xs) i d,
        mod-add-mod (k + 1) N i,
        old_item (1 + i) d,
        get_or-queue N _ (n - 1) xs next_in_range (omega arith) length_xs i d,
      )))
