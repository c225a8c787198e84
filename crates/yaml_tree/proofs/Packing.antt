-- Places that stand in one number as its digits to base 16.
use Rattle.std.proofs.lemmas.Nat.{shr-shr, shr_split, mod-pow-add, pow-add, pow_below, shr_le}
use Rattle.std.proofs.Math.Nat.{mul_assoc, mul_comm}
use Rattle.yaml_tree.proofs.Common.{ap, arith, digits, drop, drop_more, get_or, insert, IsPacked, length, length-drop, List, map, refl, suc, sym, unpacked, zero, ℕ, ◌%◌, ◌*◌, ◌+◌, ◌-◌, ◌/◌, ◌<◌, ◌^◌, ◌∙◌, ◌≡◌, ◌≤◌}

length_digits : (n w : ℕ) → length (digits n w) ≡ n
length_digits zero w = refl
length_digits (suc n) w = ap suc (length_digits n (w / 16))

four_more : (k : ℕ) → 2 ^ (4 * suc k) ≡ 16 * 2 ^ (4 * k)
four_more k = ap (λ e. 2 ^ e) (omega arith) ∙ pow-add 2 4 (4 * k)

further : (k w : ℕ) → w / 2 ^ (4 * suc k) ≡ w / 16 / 2 ^ (4 * k)
further k w = ap (λ e. w / 2 ^ e) (omega arith) ∙ sym (shr-shr w 4 (4 * k))

digit_at : (n w i : ℕ) → i < n → w / 2 ^ (4 * i) % 16 ≡ get_or (digits n w) i 0
digit_at zero w i h = absurd (omega arith)
digit_at (suc n) w zero h = ap (λ v. v % 16) (omega arith)
digit_at (suc n) w (suc i) h = ap (λ v. v % 16) (further i w) ∙ digit_at n (w / 16) i (omega arith)

-- ---- one more place

-- a number with one more digit, before the last k
abbrev with_digit : ℕ → ℕ → ℕ → ℕ
with_digit zero p w = p + 16 * w
with_digit (suc k) p w = w % 16 + 16 * with_digit k p (w / 16)

digits_with : (n k p w : ℕ) → k ≤ n → p < 16 → digits (suc n) (with_digit k p w) ≡ insert (digits n w) k p
digits_with n zero p w h l = grind arith
digits_with zero (suc k) p w h l = absurd (omega arith)
digits_with (suc n) (suc k) p w h l = grind (arith, digits_with n k p (w / 16))

with_below : (n k p w : ℕ) → k ≤ n → p < 16 → w < 2 ^ (4 * n) → with_digit k p w < 2 ^ (4 * suc n)
with_below n zero p w h l b = omega (arith, four_more n)
with_below zero (suc k) p w h l b = absurd (omega arith)
with_below (suc n) (suc k) p w h l b = omega (arith, four_more (suc n), with_below n k p (w / 16) (omega arith) l (omega (arith, four_more n)))

-- it is made by a shift
with_is : (k p w : ℕ) → with_digit k p w ≡ w % 2 ^ (4 * k) + (p + 16 * (w / 2 ^ (4 * k))) * 2 ^ (4 * k)
with_is zero p w = grind arith
with_is (suc k) p w = rw (further k w, four_more k) (omega (arith, with_is k p (w / 16), low, high (p + 16 * (w / 16 / 2 ^ (4 * k))) (2 ^ (4 * k))))
  where
    low : w % (16 * 2 ^ (4 * k)) ≡ w / 16 % 2 ^ (4 * k) * 16 + w % 16
    low = ap (λ m. w % m) (sym (four_more k)) ∙ ap (λ e. w % 2 ^ e) (omega arith) ∙ mod-pow-add w (4 * k) 4

    high : (y m : ℕ) → y * (16 * m) ≡ 16 * (y * m)
    high y m = sym (mul_assoc y 16 m) ∙ ap (λ z. z * m) (mul_comm y 16) ∙ mul_assoc 16 y m

-- the number with one more place before the last of a rank, as the code makes it but for the count
abbrev pub put_at : ℕ → ℕ → ℕ → ℕ
put_at w r p = w - w / 2 ^ (4 * r + 4) * 2 ^ (4 * r + 4) % 2 ^ 64 + (w / 2 ^ (4 * r + 4) * 16 + p) * 2 ^ (4 * r + 4) % 2 ^ 64

pub record IsWith (w r p : ℕ) (ps : List ℕ) : Type 0 where
  pub above : w / 2 ^ (4 * r + 4) * 16 + p < 2 ^ 64
  pub fits : put_at w r p + 1 < 2 ^ 64
  pub packed : IsPacked (put_at w r p + 1)
  pub places : unpacked (put_at w r p + 1) ≡ insert ps r p

is_packed : (w c q : ℕ) → w ≡ q * 16 + c → c ≤ 14 → q < 2 ^ (4 * c) → IsPacked w × (unpacked w ≡ digits c q)
is_packed w c q e few below =
    let last : w % 16 ≡ c = omega arith in
    let rest : w / 16 ≡ q = omega arith in
    (record { few = omega arith; no_more = rw (last, rest) below }, rw (last, rest))

pub count_of : (w : ℕ) (ps : List ℕ) → unpacked w ≡ ps → w % 16 ≡ length ps
count_of w ps e = sym (length_digits (w % 16) (w / 16)) ∙ ap length e

pub is_with : {w r p : ℕ} {ps : List ℕ} → unpacked w ≡ ps → IsPacked w → length ps < 14 → r ≤ length ps → p < 16 → IsWith w r p ps
is_with {w} {r} {p} {ps} e k room h l =
    let count = count_of w ps e in
    let near = with_below (w % 16) r p (w / 16) (omega arith) l k.no_more in
    let bound = pow_below (4 * suc (w % 16)) 57 (omega arith) in
    let low_bound = pow_below (4 * (w % 16)) 53 (omega arith) in
    let shift : 4 * suc r ≡ 4 * r + 4 = omega arith in
    let is = rw shift at (with_is (suc r) p w) in
    let made : put_at w r p ≡ w % 16 + 16 * with_digit r p (w / 16) = omega (arith, is, shr_split w (4 * r + 4), near, bound, low_bound, k.no_more) in
    let all = is_packed (put_at w r p + 1) (suc (w % 16)) (with_digit r p (w / 16)) (omega arith) (omega arith) near in
    record {
      above = omega (arith, k.no_more, low_bound, shr_le w (4 * r + 4));
      fits = omega arith;
      packed = all.0;
      places = all.1 ∙ digits_with (w % 16) r p (w / 16) (omega arith) l ∙ ap (λ qs. insert qs r p) e;
    }

pub place_at : (w r : ℕ) (ps : List ℕ) → unpacked w ≡ ps → r < length ps → w / 2 ^ (4 * r + 4) % 16 ≡ get_or ps r 0
place_at w r ps e h =
    ap (λ v. w / 2 ^ v % 16) (omega arith) ∙ ap (λ v. v % 16) (further r w) ∙ digit_at (w % 16) (w / 16) r (omega (arith, count_of w ps e))
    ∙ ap (λ xs. get_or xs r 0) e

-- ---- places that are packed one by one, the last rank first

-- the places of a list, changed, are the digits of a number
pub record IsPacking (f : ℕ → ℕ) (ps : List ℕ) (m : ℕ) : Type 0 where
  pub made : digits (length ps) m ≡ map f ps
  pub below : m < 2 ^ (4 * length ps)
  pub fits : m < 2 ^ 57

pub packing_more : {f : ℕ → ℕ} (xs : List ℕ) (k n m q : ℕ) → IsPacking f (drop n xs) m → n ≡ suc k → k < length xs → length xs ≤ 14
    → q ≡ f (get_or xs k 0) → q < 16 → IsPacking f (drop k xs) (m * 16 + q)
packing_more {f} xs k n m q i e h few made low =
    let later : k + 1 ≡ n = omega arith in
    let count : length (drop n xs) ≤ 13 = omega (arith, length-drop n xs) in
    rw (drop_more xs k 0 h, later) (record {
      made = grind (arith, i.made);
      below = omega (arith, i.below, four_more (length (drop n xs)));
      fits = omega (arith, i.below, pow_below (4 * length (drop n xs)) 53 (omega arith));
    })

pub packing_all : {f : ℕ → ℕ} (xs : List ℕ) (k m c : ℕ) → IsPacking f (drop k xs) m → k ≡ 0 → c ≡ length xs → c ≤ 14
    → IsPacked (m * 16 + c) × (unpacked (m * 16 + c) ≡ map f xs)
packing_all {f} xs k m c i none all few =
    let whole : IsPacking f xs m = rw none at i in
    let packed = is_packed (m * 16 + c) c m refl few (rw all whole.below) in
    (packed.0, packed.1 ∙ ap (λ n. digits n m) all ∙ whole.made)
