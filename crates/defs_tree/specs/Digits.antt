-- The number of binary digits of a number.
use Rattle.std.specs.Prelude.{ℕ, zero, suc, ◌<◌, ◌≤◌, ◌/◌, ◌^◌}

-- n / 2 has one binary digit less than n, if n isn't 0; the first number bounds the recursion, as n itself always does
abbrev pub digits_up_to : ℕ → ℕ → ℕ
digits_up_to turns zero = 0
digits_up_to zero (suc n) = 0
digits_up_to (suc turns) (suc n) = suc (digits_up_to turns (suc n / 2))

-- how many binary digits a number has; 0 has none
unfoldable pub binary_digits : ℕ → ℕ
binary_digits n = digits_up_to n n

-- k is the least number with n < 2^k
abbrev pub IsLeastExponent : ℕ → ℕ → Type 0
IsLeastExponent n k = (n < 2 ^ k) × ((j : ℕ) → n < 2 ^ j → k ≤ j)
