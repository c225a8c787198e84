-- Places and digests of a hash, as blocks or few keep them.
use Rattle.std.proofs.Common.{take}
use Rattle.std.proofs.lemmas.List.{drop-map, map-append, take-map}
use Rattle.yaml_tree.proofs.Common.{[], arith, digest_of_entry, digests, drop, Entry, Few, get_or, HasPlace, HasSpot, insert, joined, Kept, length, length-map, List, Many, map, place_of_entry, places, rank_at, rank_inside, refl, remove, suc, ℕ, ◌+◌, ◌<◌, ◌∷◌, ◌≡◌, ◌≤◌}
use Rattle.yaml_tree.specs.Edges.{number_at}
use Rattle.yaml_tree.specs.declared.entry.Spot.{Spot}

pub number_mapped : (f : Entry → ℕ) (es : List Entry) (i : ℕ) → get_or (map f es) i 0 ≡ number_at f es i
number_mapped f [] i = refl
number_mapped f (e ∷ es) i = grind (arith, number_mapped f es)

pub digests_counted : (k : Kept) → length (digests k) ≤ length (places k)
digests_counted (Few ps) = omega arith
digests_counted (Many b) = omega (arith, length-map (joined b.value) digest_of_entry, length-map (joined b.value) place_of_entry)

-- ---- maps over changes

pub map-insert : {A B : Type 0} (f : A → B) (xs : List A) (i : ℕ) (x : A) → map f (insert xs i x) ≡ insert (map f xs) i (f x)
map-insert f xs i x = rw (map-append f (take i xs) (x ∷ drop i xs), take-map f i xs, drop-map f i xs)

pub map-remove : {A B : Type 0} (f : A → B) (xs : List A) (i : ℕ) → map f (remove xs i) ≡ remove (map f xs) i
map-remove f xs i = rw (map-append f (take i xs) (drop (suc i) xs), take-map f i xs, drop-map f (suc i) xs)

-- ---- spots

pub next_spot : (k : Kept) (b o : ℕ) → HasPlace k (record { block = b; offset = o }) → HasSpot k (record { block = b; offset = o + 1 })
next_spot a b o h = grind arith

pub next_rank : (k : Kept) (b o : ℕ) → rank_at k (record { block = b; offset = o + 1 }) ≡ rank_at k (record { block = b; offset = o }) + 1
next_rank a b o = grind arith

pub place_inside : (k : Kept) (s : Spot) → HasPlace k s → (rank_at k s < length (places k)) × (s.offset < length (places k))
place_inside (Few ps) s h = (h, h)
place_inside (Many x) s h =
    let inside = rank_inside x.value s.block s.offset h.1 in
    let all = length-map (joined x.value) place_of_entry in
    (omega arith, omega arith)
