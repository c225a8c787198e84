-- Shallow trees, each node of which has a JSON text.
use Rattle.yaml_json.proofs.Common.{are_items_shallow, are_items_whole, are_pairs_whole, are_strings, arith, array, below, Bool, false, Fault, first_fault, first_item_fault, first_member_fault, first_of, hash, index, is_shallow, is_some, is_string, is_whole, IsOnlyItem, item, item_nesting, Items, max, member_nesting, nat_le, nat_tests, nesting, no_items, no_pairs, None, not, Option, pair, Pairs, real, refl, Step, step_of, suc, Tree, true, ℕ, ◌&&◌, ◌+◌, ◌-◌, ◌<◌, ◌≡◌, ◌≢◌}
use Rattle.std.proofs.Math.Bool.{and-true}

-- ---- one node and the rest

item_same : (s : Step) (a b : Bool) (o q : Option Fault) → a ≡ not (is_some o) → b ≡ not (is_some q) → (a && b) ≡ not (is_some (first_of (below s o) q))
item_same s a b o q h k = grind arith

pair_same : (s : Step) (k strings a b : Bool) (o q : Option Fault) → a ≡ not (is_some o) → b ≡ (strings && not (is_some q))
    → (k && (a && b)) ≡ ((k && strings) && not (is_some (first_of (below s o) q)))
pair_same s k strings a b o q h g = grind arith

-- ---- a tree is whole just where it has no fault

mutual
  whole_same : (t : Tree) → is_whole t ≡ not (is_some (first_fault t))
  whole_same (real s) = grind arith
  whole_same (array ts) = items_same 0 ts
  whole_same (hash ps) = grind (arith, pairs_same ps)
  whole_same t = refl

  items_same : (n : ℕ) (ts : Items) → are_items_whole ts ≡ not (is_some (first_item_fault n ts))
  items_same n no_items = refl
  items_same n (item t ts) = item_same (index n) (is_whole t) (are_items_whole ts) (first_fault t) (first_item_fault (n + 1) ts) (whole_same t) (items_same (n + 1) ts)

  pairs_same : (ps : Pairs) → are_pairs_whole ps ≡ (are_strings ps && not (is_some (first_member_fault ps)))
  pairs_same no_pairs = refl
  pairs_same (pair k v ps) =
      pair_same (step_of k) (is_string k) (are_strings ps) (is_whole v) (are_pairs_whole ps) (first_fault v) (first_member_fault ps) (whole_same v) (pairs_same ps)

-- ---- what the answer tells

pub shallow : (n : ℕ) (t : Tree) → is_shallow n t ≡ true → first_fault t ≡ None
shallow n t h = grind (arith, whole_same t)

pub not_shallow : (n : ℕ) (t : Tree) → is_shallow n t ≡ false → first_fault t ≡ None → n < nesting t
not_shallow n t h e = grind (arith, nat_tests, whole_same t)

-- ---- part by part

max_within : (a b n : ℕ) → nat_le (max a b) n ≡ (nat_le a n && nat_le b n)
max_within a b n = grind (arith, nat_tests)

dealt : (a b x y : Bool) → ((a && b) && (x && y)) ≡ ((a && x) && (b && y))
dealt d b x y = grind arith

pub next_item : (n : ℕ) (t : Tree) (ts : Items) → are_items_shallow n (item t ts) ≡ (is_shallow n t && are_items_shallow n ts)
next_item n t ts = rw (max_within (nesting t) (item_nesting ts) n) (dealt (is_whole t) (are_items_whole ts) _ _)

-- ---- level by level

-- a scalar has no level
pub scalar_within : (b : Bool) (n : ℕ) → (b && nat_le 0 n) ≡ b
scalar_within b n = grind (arith, nat_tests)

-- where no level is left
none_within : (b : Bool) (m n : ℕ) → n ≡ 0 → (b && nat_le (suc m) n) ≡ false
none_within b m n e = grind (arith, nat_tests)

pub no_items_within : (n : ℕ) (ts : Items) → n ≡ 0 → is_shallow n (array ts) ≡ false
no_items_within n ts e = none_within (are_items_whole ts) (item_nesting ts) n e

pub no_pairs_within : (n : ℕ) (ps : Pairs) → n ≡ 0 → is_shallow n (hash ps) ≡ false
no_pairs_within n ps e = none_within (are_pairs_whole ps) (member_nesting ps) n e

pub nothing_within : (n : ℕ) (t s : Tree) → IsOnlyItem t s → n ≡ 0 → is_shallow n s ≡ false
nothing_within n t s o e = rw o (no_items_within n (item t no_items) e)

-- one less for the parts
pub items_within : (n : ℕ) (ts : Items) → n ≢ 0 → is_shallow n (array ts) ≡ are_items_shallow (n - 1) ts
items_within n ts h = grind (arith, nat_tests)

pub only_within : (n : ℕ) (t s : Tree) → IsOnlyItem t s → n ≢ 0 → is_shallow n s ≡ is_shallow (n - 1) t
only_within n t s o h = rw (o, items_within n (item t no_items) h, next_item (n - 1) t no_items, scalar_within true (n - 1), and-true)
