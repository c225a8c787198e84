-- The places that a hash keeps by rank.
use Rattle.std.specs.Prelude.{ℕ, ◌<◌, ◌≤◌, List, [], map, length}
use Rattle.yaml_tree.specs.Blocks.{joined, rank_of, IsSpot, IsTaken}
use Rattle.yaml_tree.specs.declared.entry.Entry.{Entry}
use Rattle.yaml_tree.specs.declared.entry.Spot.{Spot}
use Rattle.defs_tree.specs.Tree.{Tree}
use Rattle.yaml_tree.specs.Flat.{paired}
use Rattle.yaml_tree.specs.Digests.{AreDigests, first_by}
use Rattle.yaml_tree.specs.Ranked.{IsHash}
use Rattle.yaml_tree.specs.declared.ranks.Kept.{Kept}
use Rattle.yaml_tree.specs.declared.ranks.Kept.TheVariants.{Few, Many}

abbrev pub place_of_entry : Entry → ℕ
place_of_entry e = e.place

abbrev pub digest_of_entry : Entry → ℕ
digest_of_entry e = e.digest

-- places and digests of entries in blocks
abbrev pub places_in : List (List Entry) → List ℕ
places_in bs = map place_of_entry (joined bs)

abbrev pub digests_in : List (List Entry) → List ℕ
digests_in bs = map digest_of_entry (joined bs)

-- those of a short hash, or those in blocks
abbrev pub places : Kept → List ℕ
places (Few ps) = ps
places (Many b) = places_in b.value

-- the digests of their keys; a short hash keeps none
abbrev pub digests : Kept → List ℕ
digests (Few ps) = []
digests (Many b) = digests_in b.value

-- a digest is kept for each key
abbrev pub HasDigests : Kept → Type 0
HasDigests (Few ps) = ⊥
HasDigests (Many b) = Unit {0}

-- the rank of a spot
abbrev pub rank_at : Kept → Spot → ℕ
rank_at (Few ps) s = s.offset
rank_at (Many b) s = rank_of b.value s

-- a place stands before the spot or at it, or it is an end
abbrev pub HasSpot : Kept → Spot → Type 0
HasSpot (Few ps) s = s.offset ≤ length ps
HasSpot (Many b) s = IsSpot b.value s

-- a place stands at the spot
abbrev pub HasPlace : Kept → Spot → Type 0
HasPlace (Few ps) s = s.offset < length ps
HasPlace (Many b) s = IsTaken b.value s

-- a row of keys and values, whose ranks and digests are these
pub record IsIndexed (ts : List Tree) (k : Kept) : Type 0 where
  pub hash : IsHash (first_by k) ts (places k)
  pub digested : AreDigests (digests k) (places k) (paired ts)
