-- The digits of a number.
use Rattle.std.proofs.lemmas.Fmt.{decimal_step}
use Rattle.yaml_emitter.proofs.Common.{[], ap, arith, decimal, false, int_le, nat_tests, pos, signed_decimal, sym, true, unsigned_abs, ℕ, ℤ, ◌%◌, ◌++◌, ◌+◌, ◌/◌, ◌<◌, ◌^◌, ◌∙◌, ◌∷◌, ◌≡◌, ◌≤◌}

pub last_digit : (n d : ℕ) → 10 ≤ n → n < 2 ^ 64 → d ≡ 48 + n % 10 → decimal (n / 10) ++ d ∷ [] ≡ decimal n
last_digit n d h b e = ap (λ x. decimal (n / 10) ++ x ∷ []) e ∙ sym (decimal_step n h b)

-- a number that isn't negative
pub nonnegative : (y z : ℤ) (n : ℕ) → y ≡ z → n ≡ unsigned_abs y → int_le (pos 0) y ≡ true → decimal n ≡ signed_decimal z
nonnegative a z n e f h = grind arith

-- a negative one
pub negative : (y z : ℤ) (n : ℕ) → y ≡ z → n ≡ unsigned_abs y → int_le (pos 0) y ≡ false → 45 ∷ decimal n ≡ signed_decimal z
negative a z n e f h = grind (arith, nat_tests)
