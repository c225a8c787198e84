-- Lemmas about tests of sixteen bytes at a time.
use Rattle.std.proofs.lemmas.List.{get_or-map}
use Rattle.std.proofs.lemmas.Simd.{map-map, splat_is_map, zip2_of_maps}
use Rattle.yaml_chars.proofs.Common.{[], ap, ap₂, arith, Bool, cond, false, get_or-chunk, leading_from_mask_l, length, length-chunk, length-map, List, map, mask_l-mod, not, pairs, prefix_len, prefix_len-le-length, prefix_len_passes, refl, replicate, slice_index, sym, trailing_mask_l, true, ℕ, ◌%◌, ◌&&◌, ◌+◌, ◌<◌, ◌^◌, ◌||◌, ◌∙◌, ◌∷◌, ◌≡◌, ◌≢◌, ◌≤◌}
use lib.Bits.{bit_or, bit_and}
use lib.Count.{count_trailing_zeros}
use lib.Lanes.{zip2, mask_l, top, chunk}
use lib.ListN.{get_or}

-- what a test gives in a lane
abbrev pub lane : Bool → ℕ
lane b = cond b 255 0

pub or_lanes : (a b : Bool) → bit_or (lane a) (lane b) ≡ lane (a || b)
or_lanes d e = grind arith

pub and_lanes : (a b : Bool) → bit_and (lane a) (lane b) ≡ lane (a && b)
and_lanes d e = grind arith

top_lane : (b : Bool) → top 7 (lane b) ≡ b
top_lane a = grind arith

not_false : (b : Bool) → not b ≡ true → b ≡ false
not_false a h = grind arith

-- a comparison with the same byte in each lane
pub against : {V : Type 0} (f : ℕ → ℕ → ℕ) (g : V → ℕ) (v : List V) (n y : ℕ) {xs : List ℕ} → length v ≡ n → xs ≡ map g v
    → zip2 f xs (replicate n y) ≡ map (λ x. f (g x) y) v
against f g v n y long e = zip2_of_maps f g (λ _. y) v e (splat_is_map v n y long)

-- the lanes' top bits are what was tested
pub tested : {V : Type 0} (p : V → Bool) (v : List V) (z : List ℕ) → length v ≤ 64 → z ≡ map (λ x. lane (p x)) v
    → mask_l (map (top 7) z) % 2 ^ 64 ≡ mask_l (map p v)
tested p v z short e = rw e (simp (map-map, top_lane) (mask_l-mod (map p v) 64 (omega (arith, length-map v p))))

-- sixteen lanes, and what each holds
pub record Lanes {V : Type 0} (v : List V) (d : V) (w : ℕ → V) : Type 0 where
  pub long : length v ≡ 16
  pub holds : (k : ℕ) → k < 16 → get_or v k d ≡ w k

-- the lanes before the first that passes a test, by its mask
module _ {V : Type 0} {v : List V} {d : V} {w : ℕ → V} (lanes : Lanes v d w) (p : V → Bool) (m : ℕ) (e : m ≡ mask_l (map p v)) where
  fails : (k : ℕ) → k < prefix_len (λ x. not (p x)) v → p (w k) ≡ false
  fails k h =
      ap p (sym (lanes.holds k (omega (arith, lanes.long, prefix_len-le-length (λ x. not (p x)) v))))
      ∙ not_false _ (prefix_len_passes (λ x. not (p x)) v k d h)

  count : m ≢ 0 → count_trailing_zeros 64 m ≡ prefix_len (λ x. not (p x)) v
  count some = ap (count_trailing_zeros 64) e ∙ trailing_mask_l p 64 v (omega (arith, lanes.long)) (omega (arith, some, e))

  pub goes_all : m ≡ 0 → (k : ℕ) → k < 16 → p (w k) ≡ false
  goes_all none k h = fails k (omega (arith, leading_from_mask_l p v (sym e ∙ none), lanes.long))

  pub count_of : m ≢ 0 → count_trailing_zeros 64 m ≤ 16
  count_of some = omega (arith, count some, prefix_len-le-length (λ x. not (p x)) v, lanes.long)

  pub goes_before : m ≢ 0 → (k : ℕ) → k < count_trailing_zeros 64 m → p (w k) ≡ false
  goes_before some k h = fails k (omega (arith, count some))

-- ---- each byte with the one after it

-- the pairs' first and second bytes
pub sides : (xs ys : List ℕ) → length xs ≡ length ys → (xs ≡ map (λ x. x.0) (pairs xs ys)) × (ys ≡ map (λ x. x.1) (pairs xs ys))
sides [] [] e = (refl, refl)
sides [] (y ∷ ys) e = absurd (omega (arith, e))
sides (x ∷ xs) [] e = absurd (omega (arith, e))
sides (x ∷ xs) (y ∷ ys) e = let rest = sides xs ys (omega (arith, e)) in (ap (λ r. x ∷ r) rest.0, ap (λ r. y ∷ r) rest.1)

pub length-pairs : (xs ys : List ℕ) → length xs ≡ length ys → length (pairs xs ys) ≡ length xs
length-pairs xs ys e = let both = sides xs ys e in sym (ap length both.0 ∙ length-map (pairs xs ys) (λ x. x.0))

get_or-pairs : (xs ys : List ℕ) (k : ℕ) → length xs ≡ length ys → k < length xs
    → get_or (pairs xs ys) k (0, 0) ≡ (get_or xs k 0, get_or ys k 0)
get_or-pairs xs ys k e l =
    let both = sides xs ys e in
    let at = λ (f : ℕ × ℕ → ℕ). get_or-map f (pairs xs ys) k (0, 0) 0 (omega (arith, length-pairs xs ys e)) in
    grind (arith, ap (λ v. get_or v k 0) both.0, ap (λ v. get_or v k 0) both.1, at (λ x. x.0), at (λ x. x.1))

-- ---- the bytes of a slice

pub bytes_at : (bs : List ℕ) (at : ℕ) → at + 16 < length bs → Lanes (chunk at 16 bs) 0 (λ k. slice_index bs (at + k))
bytes_at bs at room = record { long = length-chunk at 16 bs (omega arith); holds = λ k h. get_or-chunk at 16 bs k 0 h }

pub pairs_at : (bs : List ℕ) (at : ℕ) → at + 16 < length bs
    → Lanes (pairs (chunk at 16 bs) (chunk (at + 1) 16 bs)) (0, 0) (λ k. (slice_index bs (at + k), slice_index bs (at + 1 + k)))
pairs_at bs at room =
    let here = bytes_at bs at room in
    let alike = here.long ∙ sym (length-chunk (at + 1) 16 bs (omega arith)) in
    record {
      long = length-pairs _ _ alike ∙ here.long;
      holds = λ k h. get_or-pairs _ _ k alike (omega (arith, here.long))
          ∙ ap₂ (λ x y. (x, y)) (here.holds k h) (get_or-chunk (at + 1) 16 bs k 0 h);
    }
