-- A search by halves: half of what is left has fewer binary digits.
use Rattle.std.specs.Prelude.{nat_lt}
use Rattle.std.proofs.Math.Nat.{pow-suc}
use Rattle.yaml_tree.proofs.IndexCommon.{ap, arith, binary_digits, Bool, cases_lt, false, inl, inr, IsHalving, ltb-false, ltb-true, sym, true, ℕ, ◌*◌, ◌+◌, ◌-◌, ◌/◌, ◌<◌, ◌^◌, ◌∙◌, ◌≡◌, ◌≤◌}
use Rattle.defs_tree.proofs.DigitsLaws.{least_exponent}

pub digits_rise : (m n : ℕ) → m ≤ n → binary_digits m ≤ binary_digits n
digits_rise m n h = let high : n < 2 ^ binary_digits n = (least_exponent n).0 in (least_exponent m).1 (binary_digits n) (omega arith)

pub digits_some : (n : ℕ) → 0 < n → 0 < binary_digits n
digits_some n h = grind (arith, (least_exponent n).0)

twice : (n : ℕ) → 0 < n → 2 ^ binary_digits n ≡ 2 ^ (binary_digits n - 1) * 2
twice n h = let some = digits_some n h in ap (λ k. 2 ^ k) (omega arith) ∙ pow-suc 2 (binary_digits n - 1)

pub halved : (m n : ℕ) → 0 < n → m ≤ n / 2 → binary_digits m + 1 ≤ binary_digits n
halved m n h e =
    let high : n < 2 ^ binary_digits n = (least_exponent n).0 in
    let less = (least_exponent m).1 (binary_digits n - 1) (omega (arith, twice n h)) in
    omega (arith, digits_some n h)

-- of two numbers, the first not 0, at least one has fewer binary digits than their sum
pub digits_shared : (a b : ℕ) → 0 < a → binary_digits a + binary_digits b + 1 ≤ 2 * binary_digits (a + b)
digits_shared a b h =
    let k = binary_digits (a + b) in
    let high : a + b < 2 ^ k = (least_exponent (a + b)).0 in
    let two = twice (a + b) (omega arith) in
    let some = digits_some (a + b) (omega arith) in
    elim (cases_lt a (2 ^ (k - 1))) [
      | inl less ↦ omega (arith, (least_exponent a).1 (k - 1) less, digits_rise b (a + b) (omega arith))
      | inr more ↦ omega (arith, (least_exponent b).1 (k - 1) (omega arith), digits_rise a (a + b) (omega arith))
    ]

-- So many comparisons were made at first, and now; what is left by halves may cost no more than so many in all.
pub record IsCounting (first most now left : ℕ) : Type 0 where
  pub counted : first ≤ now
  pub within : now + binary_digits left ≤ first + most

pub counting_more : {first most now left : ℕ} (later rest : ℕ) → IsCounting first most now left → 0 < left → rest ≤ left / 2 → later ≡ now + 1
    → IsCounting first most later rest
counting_more {left = left} later rest i some half more = record { counted = omega (arith, i.counted); within = omega (arith, i.within, halved rest left some half) }

-- a search that counts so has come to stand between low and high
pub record IsSearch (f : ℕ → ℕ) (n most m first now low high : ℕ) : Type 0 where
  pub halving : IsHalving f n m low high
  pub counting : IsCounting first most now (high - low)

abbrev pub middle : ℕ → ℕ → ℕ
middle low high = low + (high - low) / 2

module _ {f : ℕ → ℕ} {n most m first now low high : ℕ} (i : IsSearch f n most m first now low high) (test : low < high) where
  pub middle_within : middle low high < n
  middle_within = omega (arith, i.halving.within)

  module _ {later d : ℕ} {b : Bool} (order : b ≡ nat_lt d m) (got : d ≡ f (middle low high)) (count : later ≡ now + 1) where
    -- where the number in the middle is below, the search goes on after it
    pub search_after : b ≡ true → IsSearch f n most m first later (middle low high + 1) high
    search_after is =
        let less : d < m = ltb-true d m (sym order ∙ is) in
        record {
          halving = record {
            ordered = omega arith;
            within = i.halving.within;
            below = λ k e. let same : k ≡ middle low high = omega arith in omega (arith, ap f same);
            from = i.halving.from;
          };
          counting = counting_more later (high - (middle low high + 1)) i.counting (omega arith) (omega arith) count;
        }

    -- where it is not, the search goes on before it
    pub search_before : b ≡ false → IsSearch f n most m first later low (middle low high)
    search_before is =
        let more : m ≤ d = ltb-false d m (sym order ∙ is) in
        record {
          halving = record { ordered = omega arith; within = omega (arith, i.halving.within); below = i.halving.below; from = λ h. omega arith };
          counting = counting_more later (middle low high - low) i.counting (omega arith) (omega arith) count;
        }
