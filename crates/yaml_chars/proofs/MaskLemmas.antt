-- A mask that a vector's tests give, held to a test of each byte, for the crates that look at blocks of bytes.
use Rattle.std.proofs.lemmas.List.Folds.{prefix_len-append}
use Rattle.std.proofs.lemmas.Simd.{zip2_of_maps, zip2_splat_left}
use Rattle.yaml_chars.proofs.Common.{[], ap, ap₂, arith, Bool, cases_order, chunk-drop, cond, drop, eq-eqb, eqb, false, Fits, leading_from_mask_l, length, length-chunk, length-map, List, list_any, ltb, map, mask_l-mod, ne_eqb, not, not-suc-le-zero, prefix_len, prefix_len-le-length, refl, replicate, suc, sym, T, trailing_mask_l, true, w8, zero, ℕ, ◌%◌, ◌&&◌, ◌+◌, ◌<◌, ◌^◌, ◌∙◌, ◌∷◌, ◌≡◌, ◌≤◌}
use lib.Bits.{bit_or, bit_and}
use lib.Count.{count_trailing_zeros}
use lib.Lanes.{zip2, mask_l, top, chunk, Each1}

-- what a comparison gives in a lane
abbrev pub hit : ℕ → ℕ → ℕ
hit a b = cond (eqb a b) 255 0

abbrev pub below : ℕ → ℕ → ℕ
below a b = cond (ltb a b) 255 0

abbrev pub other : ℕ → ℕ → ℕ
other a b = cond (not (eqb a b)) 255 0

pub either : (f g : ℕ → ℕ) (v : List ℕ) {a b : List ℕ} → a ≡ map f v → b ≡ map g v → zip2 bit_or a b ≡ map (λ x. bit_or (f x) (g x)) v
either f g v p q = zip2_of_maps bit_or f g v p q

pub both_of : (f g : ℕ → ℕ) (v : List ℕ) {a b : List ℕ} → a ≡ map f v → b ≡ map g v → zip2 bit_and a b ≡ map (λ x. bit_and (f x) (g x)) v
both_of f g v p q = zip2_of_maps bit_and f g v p q

-- a comparison with the same byte in each lane, on the left
pub splat_first : (h : ℕ → ℕ → ℕ) (v : List ℕ) (n y : ℕ) → length v ≡ n → zip2 h (replicate n y) v ≡ map (λ x. h y x) v
splat_first h v n y e = zip2_splat_left h y n v e

-- ---- a fact of each number below n, by computation

abbrev pub same : Bool → Bool → Bool
same true b = b
same false b = not b

pub same_is : (a b : Bool) → T (same a b) → a ≡ b
same_is d e h = grind arith

abbrev pub all_upto : (ℕ → Bool) → ℕ → Bool
all_upto p zero = true
all_upto p (suc n) = p n && all_upto p n

pub each_upto : (p : ℕ → Bool) (n : ℕ) → T (all_upto p n) → (i : ℕ) → i < n → T (p i)
each_upto p zero h i lt = absurd (not-suc-le-zero lt)
each_upto p (suc n) h i lt = grind (arith, each_upto p n, cases_order i n)

each_byte : (f : ℕ → ℕ) (p : ℕ → Bool) → T (all_upto (λ x. same (top 7 (f x)) (p x)) 256) → (v : List ℕ) → Each1 (Fits w8) v → map (top 7) (map f v) ≡ map p v
each_byte f p all [] fits = refl
each_byte f p all (x ∷ xs) fits = ap₂ (λ a b. a ∷ b) (same_is _ _ (each_upto (λ y. same (top 7 (f y)) (p y)) 256 all x fits.0.fits)) (each_byte f p all xs fits.1)

-- the lanes' top bits are the bytes' tests
pub masked : (f : ℕ → ℕ) (p : ℕ → Bool) (v z : List ℕ) → length v ≤ 64 → Each1 (Fits w8) v → z ≡ map f v → T (all_upto (λ x. same (top 7 (f x)) (p x)) 256)
    → mask_l (map (top 7) z) % 2 ^ 64 ≡ mask_l (map p v)
masked f p v z short fits e all =
    ap (λ l. mask_l l % 2 ^ 64) (ap (map (top 7)) e ∙ each_byte f p all v fits) ∙ mask_l-mod (map p v) 64 (omega (arith, length-map v p))

-- ---- a run of bytes that fail the test, a block at a time

module _ (p : ℕ → Bool) where
  abbrev passes : ℕ → Bool
  passes x = not (p x)

  all_pass : (xs : List ℕ) → prefix_len passes xs ≡ length xs → mask_l (map p xs) ≡ 0
  all_pass [] e = refl
  all_pass (x ∷ xs) e = grind (arith, all_pass xs, prefix_len-le-length passes xs)

  split : (d : List ℕ) (i n : ℕ) → prefix_len passes (drop i d) ≡ cond (eqb (prefix_len passes (chunk i n d)) (length (chunk i n d))) (length (chunk i n d) + prefix_len passes (drop (i + n) d)) (prefix_len passes (chunk i n d))
  split d i n = ap (prefix_len passes) (chunk-drop i n d) ∙ prefix_len-append passes (chunk i n d) (drop (i + n) d)

  -- no byte of the block passes it
  pub run_through : (d : List ℕ) (i n : ℕ) → i + n ≤ length d → mask_l (map p (chunk i n d)) ≡ 0 → prefix_len passes (drop i d) ≡ n + prefix_len passes (drop (i + n) d)
  run_through d i n room none =
      let c = chunk i n d in
      split d i n ∙ ap (λ b. cond b (length c + prefix_len passes (drop (i + n) d)) (prefix_len passes c)) (eq-eqb _ _ (leading_from_mask_l p c none))
      ∙ ap (λ k. k + prefix_len passes (drop (i + n) d)) (length-chunk i n d room)

  -- one does
  pub run_stops : (d : List ℕ) (i n : ℕ) → i + n ≤ length d → n ≤ 64 → 0 < mask_l (map p (chunk i n d)) → prefix_len passes (drop i d) ≡ count_trailing_zeros 64 (mask_l (map p (chunk i n d)))
  run_stops d i n room short some =
      let c = chunk i n d in
      split d i n ∙ ap (λ b. cond b (length c + prefix_len passes (drop (i + n) d)) (prefix_len passes c)) (ne_eqb _ _ (λ (e : prefix_len passes c ≡ length c). omega (arith, all_pass c e)))
      ∙ sym (trailing_mask_l p 64 c (omega (arith, length-chunk i n d room)) some)

  -- a run is counted from any place in it
  pub run_from : (d : List ℕ) (i : ℕ) → i ≤ prefix_len passes d → prefix_len passes d ≡ i + prefix_len passes (drop i d)
  run_from d zero h = omega arith
  run_from [] (suc i) h = absurd (not-suc-le-zero h)
  run_from (x ∷ xs) (suc i) h = grind (arith, run_from xs i)

  -- so is whether a byte passes the test
  pub run_ends : (xs : List ℕ) → ltb (prefix_len passes xs) (length xs) ≡ list_any p xs
  run_ends [] = refl
  run_ends (x ∷ xs) = grind (arith, run_ends xs)
