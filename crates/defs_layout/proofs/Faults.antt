-- A tree that has a JSON text has no node that has none.
use Rattle.defs_layout.proofs.Common.{alias, AllHaveJson, and_from, ap, are_strings, AreMembers, bad_value, first_fault, first_item_fault, first_member_fault, first_of, has_other_key, HasJson, here, if◌then◌else◌, index, is_no_number, item, Items, no_items, no_pairs, None, pair, Pairs, real, refl, step_of, Tree, true, ℕ, ◌+◌, ◌∙◌, ◌≡◌, arith}
use Rattle.defs_tree.specs.Tree.{array, hash}
use Rattle.defs_layout.specs.Fault.{below}

keys_are_strings : (ps : Pairs) → AreMembers ps → are_strings ps ≡ true
keys_are_strings no_pairs h = refl
keys_are_strings (pair k v ps) h = and_from _ _ (grind arith) (keys_are_strings ps h.2)

mutual
  pub no_fault : (t : Tree) → HasJson t → first_fault t ≡ None
  no_fault (real s) h = ap (λ b. if b then None else here is_no_number) h
  no_fault (array ts) h = no_item_fault 0 ts h
  no_fault (hash ps) h = ap (λ b. if b then first_member_fault ps else here has_other_key) (keys_are_strings ps h.1) ∙ no_member_fault ps h.1
  no_fault (alias n) h = absurd h
  no_fault bad_value h = absurd h
  no_fault t h = refl

  no_item_fault : (n : ℕ) (ts : Items) → AllHaveJson ts → first_item_fault n ts ≡ None
  no_item_fault n no_items h = refl
  no_item_fault n (item t ts) h = ap (λ o. first_of (below (index n) o) (first_item_fault (n + 1) ts)) (no_fault t h.0) ∙ no_item_fault (n + 1) ts h.1

  no_member_fault : (ps : Pairs) → AreMembers ps → first_member_fault ps ≡ None
  no_member_fault no_pairs h = refl
  no_member_fault (pair k v ps) h = ap (λ o. first_of (below (step_of k) o) (first_member_fault ps)) (no_fault v h.1) ∙ no_member_fault ps h.2
