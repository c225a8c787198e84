-- Entries in blocks, as one row.
use Rattle.std.specs.Prelude.{ℕ, zero, suc, ◌≡◌, ◌+◌, ◌<◌, ◌≤◌, List, [], ◌∷◌, ◌++◌, length, get_or, set, take, drop}
use Rattle.std.specs.List.{insert}
use Rattle.yaml_tree.specs.declared.entry.Entry.{Entry}
use Rattle.yaml_tree.specs.declared.entry.Spot.{Spot}
use Rattle.yaml_tree.specs.Edges.{digest_at}

-- the entries of all blocks
abbrev pub joined : List (List Entry) → List Entry
joined [] = []
joined (b ∷ bs) = b ++ joined bs

-- how many entries stand before a block
abbrev pub start : List (List Entry) → ℕ → ℕ
start [] i = 0
start (b ∷ bs) zero = 0
start (b ∷ bs) (suc i) = length b + start bs i

-- how many entries stand before a spot
abbrev pub rank_of : List (List Entry) → Spot → ℕ
rank_of bs s = start bs s.block + s.offset

-- an entry stands before the spot or at it, or it is the end of a block or of all
abbrev pub IsSpot : List (List Entry) → Spot → Type 0
IsSpot bs s = (s.block ≤ length bs) × (s.offset ≤ length (get_or bs s.block []))

-- an entry stands at the spot
abbrev pub IsTaken : List (List Entry) → Spot → Type 0
IsTaken bs s = (s.block < length bs) × (s.offset < length (get_or bs s.block []))

-- no block is empty
abbrev pub AreFilled : List (List Entry) → Type 0
AreFilled bs = (i : ℕ) → i < length bs → 0 < length (get_or bs i [])

-- the first digest of a block
abbrev pub head_at : List (List Entry) → ℕ → ℕ
head_at bs i = digest_at (get_or bs i []) 0

-- so many entries from the rank on have the digest; those before have lower ones, those after higher ones
pub record IsNarrowed (es : List Entry) (m rank count : ℕ) : Type 0 where
  pub within : rank + count ≤ length es
  pub below : (i : ℕ) → suc i ≡ rank → digest_at es i < m
  pub inside : (i : ℕ) → rank ≤ i → i < rank + count → digest_at es i ≡ m
  pub above : rank + count < length es → m < digest_at es (rank + count)

-- a block's first entries, so many, are a block of their own; the others are block n
abbrev pub halved : List (List Entry) → ℕ → ℕ → ℕ → List (List Entry)
halved bs i n h = insert (set bs i (take h (get_or bs i []))) n (drop h (get_or bs i []))
