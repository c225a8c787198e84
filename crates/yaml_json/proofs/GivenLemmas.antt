-- What every tree of the library meets, part by part.
use Rattle.yaml_json.proofs.Common.{[], all_scalars, AllHaveJson, and_from, and_parts, are_characters, are_strings, AreGiven, AreMembers, ArePairsGiven, arith, array, below, boolean, chars, false, Fault, first_fault, first_item_fault, first_member_fault, first_of, flat_text, hash, hash_tree, HasJson, index, integer, is_block, is_string, IsFlatGiven, IsGiven, IsKey, IsKeyGiven, IsUtf8, item, Items, json_text, List, nat_tests, no_items, no_pairs, None, null, Option, pair, Pairs, pairs_of, real, refl, scalars-chars, Step, step_of, string, Tree, true, true≢false, ℕ, ◌+◌, ◌∷◌, ◌≡◌}
use Rattle.defs_tree.specs.Pairs.{AreDistinct}
use Rattle.yaml_emitter.proofs.ValidLemmas.{distinct_pairs}

-- ---- texts

scalars_are : (cs : List ℕ) → all_scalars cs ≡ true → are_characters cs ≡ true
scalars_are [] h = refl
scalars_are (c ∷ cs) h = let p = and_parts _ (all_scalars cs) h in and_from _ _ (grind (arith, nat_tests, p.0)) (scalars_are cs p.1)

pub text_given : (bs : List ℕ) → IsUtf8 bs → are_characters (chars bs) ≡ true
text_given bs u = scalars_are (chars bs) (scalars-chars bs u)

-- ---- nodes

-- one that has no parts
pub flat_given : (t : Tree) → is_block t ≡ false → IsFlatGiven t → IsGiven t
flat_given (array no_items) b g = tt
flat_given (array (item t ts)) b g = absurd (true≢false b)
flat_given (hash no_pairs) b g = (tt, tt)
flat_given (hash (pair k v ps)) b g = absurd (true≢false b)
flat_given t b g = g

pub flat_text_is : (t : Tree) (i : Option ℕ) (m : ℕ) → is_block t ≡ false → flat_text t ≡ json_text i m t
flat_text_is a i m b = grind arith

pub given_hash : (ps : List (Tree × Tree)) → AreDistinct ps → ArePairsGiven (pairs_of ps) → IsGiven (hash_tree ps)
given_hash ps d v = (distinct_pairs ps d, v)

-- ---- with no fault

none_first : (s : Step) (o q : Option Fault) → first_of (below s o) q ≡ None → (o ≡ None) × (q ≡ None)
none_first s a q e = grind arith

key_has : (k : Tree) → is_string k ≡ true → IsKeyGiven k → IsKey k
key_has a e g = grind arith

mutual
  pub has_json : (t : Tree) → first_fault t ≡ None → IsGiven t → HasJson t
  has_json (real s) e g = grind arith
  has_json (integer z) e g = g
  has_json (string s) e g = g
  has_json (boolean b) e g = tt
  has_json (array ts) e g = items_have 0 ts e g
  has_json (hash ps) e g = (g.0, members_have ps (grind arith) (grind arith) g.1)
  has_json null e g = tt
  has_json t e g = cc

  items_have : (n : ℕ) (ts : Items) → first_item_fault n ts ≡ None → AreGiven ts → AllHaveJson ts
  items_have n no_items e g = tt
  items_have n (item t ts) e g = let h = none_first (index n) (first_fault t) (first_item_fault (n + 1) ts) e in (has_json t h.0 g.0, items_have (n + 1) ts h.1 g.1)

  members_have : (ps : Pairs) → are_strings ps ≡ true → first_member_fault ps ≡ None → ArePairsGiven ps → AreMembers ps
  members_have no_pairs s e g = tt
  members_have (pair k v ps) s e g =
      let h = none_first (step_of k) (first_fault v) (first_member_fault ps) e in
      let p = and_parts (is_string k) (are_strings ps) s in
      (key_has k p.0 g.0, has_json v h.0 g.1, members_have ps p.1 h.1 g.2)
