-- The first element of a list that passes a test.
use Rattle.std.proofs.lemmas.Bool.Decides.{nat_tests}
use Rattle.std.proofs.lemmas.List.Recursion.{is_position_or_len}
use Rattle.yaml_programs.proofs.Common.{after_first, ap, arith, before_first, Bool, cond, drop, drop-map, false, length, List, map, nat_lt, None, not, Option, position, position_or_len, refl, Some, take, take-map, true, ℕ, ◌+◌, ◌<◌, ◌∙◌, ◌≡◌, ◌≤◌}

pub position_some : {X : Type 0} (p : X → Bool) (xs : List X) → position_or_len p xs < length xs → position p xs ≡ Some (position_or_len p xs)
position_some p xs h = let t : nat_lt (position_or_len p xs) (length xs) ≡ true = grind (arith, nat_tests) in rw t

pub position_none : {X : Type 0} (p : X → Bool) (xs : List X) → position_or_len p xs ≡ length xs → position p xs ≡ None
position_none p xs h = let t : nat_lt (position_or_len p xs) (length xs) ≡ false = grind (arith, nat_tests) in rw t

-- where the element is, or none is
abbrev pub IsPlaced : {X : Type 0} → (X → Bool) → List X → Option ℕ → Type 0
IsPlaced p xs None = length xs ≤ position_or_len p xs
IsPlaced p xs (Some i) = (position_or_len p xs ≡ i) × (i < length xs)

placed_at : {X : Type 0} (p : X → Bool) (xs : List X) (b : Bool) → nat_lt (position_or_len p xs) (length xs) ≡ b → IsPlaced p xs (cond b (Some (position_or_len p xs)) None)
placed_at p xs true h = (refl, grind (arith, nat_tests))
placed_at p xs false h = grind (arith, nat_tests)

pub placed : {X : Type 0} (p : X → Bool) (xs : List X) (o : Option ℕ) → o ≡ position p xs → IsPlaced p xs o
placed p xs o h = rw h (placed_at p xs (nat_lt (position_or_len p xs) (length xs)) refl)

flipped : (b : Bool) (n : ℕ) → cond (not b) n 0 ≡ cond b 0 n
flipped true n = refl
flipped false n = refl

position_or_len-map : {X Y : Type 0} (f : X → Y) (p : Y → Bool) (xs : List X) → position_or_len p (map f xs) ≡ position_or_len (λ x. p (f x)) xs
position_or_len-map f p xs = is_position_or_len (λ ys. position_or_len p (map f ys)) (λ x. p (f x)) refl (λ x ys. flipped (p (f x)) (1 + position_or_len p (map f ys))) xs

pub before-map : {X Y : Type 0} (f : X → Y) (p : Y → Bool) (xs : List X) → before_first p (map f xs) ≡ map f (take (position_or_len (λ x. p (f x)) xs) xs)
before-map f p xs = ap (λ n. take n (map f xs)) (position_or_len-map f p xs) ∙ take-map f (position_or_len (λ x. p (f x)) xs) xs

pub after-map : {X Y : Type 0} (f : X → Y) (p : Y → Bool) (xs : List X) → after_first p (map f xs) ≡ map f (drop (position_or_len (λ x. p (f x)) xs + 1) xs)
after-map f p xs = ap (λ n. drop (n + 1) (map f xs)) (position_or_len-map f p xs) ∙ drop-map f (position_or_len (λ x. p (f x)) xs + 1) xs
