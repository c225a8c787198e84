-- Pairs that are put into a hash one after the other.
use Rattle.overlay.proofs.Common.{[], ap, append_assoc, AreDistinct, arith, Bool, brought, false, has_key, hash, insert, is_some, item, items_of, lacks_key, List, list_of_pairs, lookup, merge_key, merged, merged_pairs, merged_values, None, not, Option, option_map, pairs_depth, pairs_of, pairs_of_mappings, refl, Some, sym, Tree, true, values_distinct, view, with_new_pair, with_new_pairs, without, ℕ, ◌++◌, ◌∙◌, ◌∷◌, ◌≡◌, ◌≤◌}
use Rattle.overlay.proofs.InsertedLemmas.{key_is_new, put_new}
use Rattle.yaml_tree.specs.declared.yaml.Yaml.{Yaml}
use Rattle.yaml_tree.specs.declared.yaml.Yaml.TheVariants as yamls
use Rattle.yaml_tree.specs.declared.hash.Hash.{Hash}

-- ---- pairs that are known to be distinct

pub value_put : (k v : Tree) (ps rest all whole : List (Tree × Tree)) → AreDistinct all → rest ≡ (k, v) ∷ whole → ps ++ merged_values (pairs_of rest) ≡ merged_values (pairs_of all)
    → insert k (merged v) ps ++ merged_values (pairs_of whole) ≡ merged_values (pairs_of all)
value_put k v ps rest all whole d e h =
    let left = merged_values (pairs_of whole) in
    let f : ps ++ (k, merged v) ∷ left ≡ merged_values (pairs_of all) = ap (λ rs. ps ++ merged_values (pairs_of rs)) (sym e) ∙ h in
    let g : AreDistinct (ps ++ (k, merged v) ∷ left) = rw f (values_distinct (pairs_of all) (rw (list_of_pairs all) d)) in
    rw (put_new k (merged v) ps (key_is_new ps left (k, merged v) g), append_assoc) f

-- ---- pairs that are put in unless their key is there

pub pair_put : (k v : Tree) (ps rs qs : List (Tree × Tree)) → rs ≡ (k, v) ∷ qs → lookup k ps ≡ None → with_new_pairs (insert k v ps) qs ≡ with_new_pairs ps rs
pair_put k v ps rs qs e h =
    let n : has_key k ps ≡ false = ap is_some h in
    let f : insert k v ps ≡ with_new_pair ps (k, v) = rw (put_new k v ps (lacks_key k ps n), n) refl in
    rw (e, f) refl

-- a key that was not found
pub not_found : {A : Type 0} (o : Option A) (f : A → Tree) (q : Option Tree) (b : Bool) → option_map f o ≡ q → is_some o ≡ not b → b ≡ true → q ≡ None
not_found o f q b e s t = grind arith

-- ---- what a value brings

new_pairs_both : (ps qs rs : List (Tree × Tree)) → with_new_pairs (with_new_pairs ps qs) rs ≡ with_new_pairs ps (qs ++ rs)
new_pairs_both ps [] rs = refl
new_pairs_both ps (q ∷ qs) rs = new_pairs_both (with_new_pair ps q) qs rs

pub mapping_put : (ps qs : List (Tree × Tree)) (ts us : List Tree) → ts ≡ hash (pairs_of qs) ∷ us
    → with_new_pairs (with_new_pairs ps qs) (pairs_of_mappings (items_of us)) ≡ with_new_pairs ps (pairs_of_mappings (items_of ts))
mapping_put ps qs ts us e = rw (e, list_of_pairs qs) (new_pairs_both ps qs (pairs_of_mappings (items_of us)))

pub other_left_out : (y : Yaml) (ts us : List Tree) → ((h : Hash) → y ≡ yamls.Hash h → ⊥) → ts ≡ view y ∷ us → pairs_of_mappings (items_of us) ≡ pairs_of_mappings (items_of ts)
other_left_out y ts us n e = rw e (by y n)
  where
    by : (z : Yaml) → ((h : Hash) → z ≡ yamls.Hash h → ⊥) → pairs_of_mappings (items_of us) ≡ pairs_of_mappings (item (view z) (items_of us))
    by (yamls.Hash h) m = absurd (m h refl)
    by _ m = refl
