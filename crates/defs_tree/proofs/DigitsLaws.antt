-- The number of binary digits is the least exponent of two above a number.
use Rattle.std.proofs.Math.Nat.{pow-suc}
use Rattle.defs_tree.proofs.Common.{arith, binary_digits, digits_up_to, IsLeastExponent, suc, zero, ℕ, ◌/◌, ◌<◌, ◌^◌, ◌≤◌}

pub least_up_to : (turns n : ℕ) → n ≤ turns → IsLeastExponent n (digits_up_to turns n)
least_up_to turns zero h = (omega arith, λ j e. omega arith)
least_up_to zero (suc n) h = absurd (omega arith)
least_up_to (suc turns) (suc n) h = further n (digits_up_to turns (suc n / 2)) (least_up_to turns (suc n / 2) (omega arith))
  where
    further : (n k : ℕ) → IsLeastExponent (suc n / 2) k → IsLeastExponent (suc n) (suc k)
    further n k r = (let above : suc n / 2 < 2 ^ k = r.0 in omega (arith, pow-suc 2 k), least)
      where
        least : (j : ℕ) → suc n < 2 ^ j → suc k ≤ j
        least zero e = absurd (omega arith)
        least (suc j) e = let below : k ≤ j = r.1 j (omega (arith, pow-suc 2 j)) in omega arith

pub least_exponent : (n : ℕ) → IsLeastExponent n (binary_digits n)
unfolding binary_digits
least_exponent n = least_up_to n n (omega arith)
