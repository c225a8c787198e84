-- The digits of a number.
use Rattle.std.proofs.Math.Seq.{take-length}
use Rattle.yaml_json.proofs.Common.{[], ap, append_assoc, arith, decimal, decimal_digit, decimal_step, drop, eqb, eqb→eq, false, FitsSigned, get_or, int_le, IsAscii, IsAscii-signed, length, length-append, length-drop, List, nat_tests, negsuc, pos, signed_decimal, sym, take, unsigned_abs, w64, ℕ, ℤ, ◌%◌, ◌&&◌, ◌*◌, ◌++◌, ◌+◌, ◌-◌, ◌/◌, ◌<◌, ◌^◌, ◌∙◌, ◌∷◌, ◌≡◌, ◌≤◌}
use lib.Ieee.Fits.{and_l, and_r}
use Rattle.yaml_chars.proofs.MaskLemmas.{each_upto}
use Rattle.yaml_json.specs.declared.integer.TheConstants.{PAIRS}

pub pairs_below : (p : ℕ) → p < 100 → (get_or PAIRS (2 * p) 0 ≡ 48 + p / 10) × (get_or PAIRS (2 * p + 1) 0 ≡ 48 + p % 10)
pairs_below p h =
    let t = each_upto (λ p. eqb (get_or PAIRS (2 * p) 0) (48 + p / 10) && eqb (get_or PAIRS (2 * p + 1) 0) (48 + p % 10)) 100 tt p h in
    (eqb→eq _ _ (and_l _ _ t), eqb→eq _ _ (and_r _ _ t))

-- the two digits of a number below 100
abbrev pub pair : ℕ → List ℕ
pair p = (48 + p / 10) ∷ (48 + p % 10) ∷ []

pub two_digits : (n : ℕ) → 10 ≤ n → n < 100 → decimal n ≡ pair n
two_digits n lo hi = rw (decimal_step n lo (omega arith), decimal_digit (n / 10) (omega arith))

pub two_more : (n : ℕ) → 100 ≤ n → n < 2 ^ 64 → decimal n ≡ decimal (n / 100) ++ pair (n % 100)
two_more n lo hi =
    let a : n / 10 / 10 ≡ n / 100 = omega arith in
    let b : n / 10 % 10 ≡ n % 100 / 10 = omega arith in
    let c : n % 10 ≡ n % 100 % 10 = omega arith in
    rw (decimal_step n (omega arith) hi, decimal_step (n / 10) (omega arith) (omega arith), append_assoc, a, b, ← c)

-- how many digits there are
pub record HasDigits (n : ℕ) : Type 0 where
  pub one : n < 10 → length (decimal n) ≡ 1
  pub two : 10 ≤ n → n < 100 → length (decimal n) ≡ 2
  pub more : 100 ≤ n → length (decimal n) ≡ length (decimal (n / 100)) + 2

pub has_digits : (n : ℕ) → n < 2 ^ 64 → HasDigits n
has_digits n h = record {
  one = λ l. ap length (decimal_digit n l);
  two = λ l m. ap length (two_digits n l m);
  more = λ l. ap length (two_more n l h) ∙ length-append _ _;
}

-- a negative number
pub minus_first : (z : ℤ) → int_le (pos 0) z ≡ false → 45 ∷ decimal (unsigned_abs z) ≡ signed_decimal z
minus_first a e = grind (arith, nat_tests)

-- what stands at the end of the buffer
pub end_text : (n : ℕ) (bs text : List ℕ) → length bs ≡ 20 → drop n bs ≡ text → take (20 - n) (drop n bs) ≡ text
end_text n bs text long e = ap (λ k. take k (drop n bs)) (sym (length-drop n bs ∙ ap (λ k. k - n) long)) ∙ take-length (drop n bs) ∙ e

pub signed_ascii : (z : ℤ) → FitsSigned w64 z → IsAscii (signed_decimal z)
signed_ascii (pos n) h = IsAscii-signed (pos n) h.sfits
signed_ascii (negsuc n) h = IsAscii-signed (negsuc n) h.sfits
