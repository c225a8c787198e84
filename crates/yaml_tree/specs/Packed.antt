-- Places that stand in one number as its digits to base 16: the last one is their count, and before it stand the places, that of
-- rank 0 first.
use Rattle.std.specs.Prelude.{ℕ, zero, suc, ◌*◌, ◌^◌, ◌<◌, ◌≤◌, ◌/◌, ◌%◌, List, [], ◌∷◌}

-- so many digits of a number, from the last one on
abbrev pub digits : ℕ → ℕ → List ℕ
digits zero w = []
digits (suc n) w = w % 16 ∷ digits n (w / 16)

-- the places
abbrev pub unpacked : ℕ → List ℕ
unpacked w = digits (w % 16) (w / 16)

-- There are at most fourteen, and nothing stands before the last of them.
pub record IsPacked (w : ℕ) : Type 0 where
  pub few : w % 16 ≤ 14
  pub no_more : w / 16 < 2 ^ (4 * (w % 16))
