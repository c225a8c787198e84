-- Where the digests of a row of entries reach a number.
use Rattle.std.specs.Prelude.{ℕ, zero, suc, ◌≡◌, ◌<◌, ◌≤◌, List, [], ◌∷◌, length}
use Rattle.yaml_tree.specs.declared.entry.Entry.{Entry}

-- a number of an entry; 0 where there is none
abbrev pub number_at : (Entry → ℕ) → List Entry → ℕ → ℕ
number_at f [] i = 0
number_at f (e ∷ es) zero = f e
number_at f (e ∷ es) (suc i) = number_at f es i

-- the digest of an entry
abbrev pub digest_at : List Entry → ℕ → ℕ
digest_at = number_at (λ e. e.digest)

-- the place of an entry
abbrev pub place_at : List Entry → ℕ → ℕ
place_at = number_at (λ e. e.place)

-- of so many numbers, the one before j is below m, and the one at j is not
pub record IsEdge (f : ℕ → ℕ) (n m j : ℕ) : Type 0 where
  pub counted : j ≤ n
  pub below : (i : ℕ) → suc i ≡ j → f i < m
  pub from : j < n → m ≤ f j

-- a search for that j has come to stand between low and high
pub record IsHalving (f : ℕ → ℕ) (n m low high : ℕ) : Type 0 where
  pub ordered : low ≤ high
  pub within : high ≤ n
  pub below : (i : ℕ) → suc i ≡ low → f i < m
  pub from : high < n → m ≤ f high

-- no digest is above a later one
abbrev pub AreRising : List Entry → Type 0
AreRising es = (i j : ℕ) → i ≤ j → j < length es → digest_at es i ≤ digest_at es j
