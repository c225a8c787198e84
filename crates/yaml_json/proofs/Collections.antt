-- How arrays and objects begin, grow and end.
use Rattle.yaml_json.proofs.ReadCommon.{[], Adds, ap, append_assoc, AreItems, ArePairs, arith, array_tree, Bool, cond, false, hash_tree, IsGap, IsInArray, IsInObject, IsKey, IsStringEnd, IsValue, List, None, PutsItem, PutsMember, refl, Some, subst, sym, Tree, true, true≢false, ℕ, ◌++◌, ◌∙◌, ◌∷◌, ◌≡◌, ◌≤◌}
use Rattle.defs_tree.specs.Order.{tree_eq}
use Rattle.defs_tree.proofs.OrderLaws.{tree_eq_decides}
use Rattle.defs_tree.proofs.PairsLaws.{AreDistinct-append}
use Rattle.defs_tree.specs.Pairs.{AreDistinct, Lacks, lookup, without, insert}
use Rattle.defs_layout.specs.Marks.{comma, left_brace, left_bracket, right_brace, right_bracket}
use Rattle.defs_layout.specs.Json as json

-- ---- arrays

one_item : {t : Tree} {n : ℕ} {at rest end : List ℕ} → IsValue t n at rest → IsGap false rest end → AreItems (t ∷ []) n at end
one_item v g =
    record { elements = json.last_element v.value g.gap; are = (v.is, g.tabs); trees_are = cc; shallow = v.shallow; spelled = cc }

item_before : {t : Tree} {ts : List Tree} {n : ℕ} {at rest behind next end : List ℕ} → IsValue t n at rest
    → IsGap false rest (comma ∷ behind) → IsGap false behind next → AreItems ts n next end → AreItems (t ∷ ts) n at end
item_before v g h es = record {
  elements = json.element v.value g.gap h.gap es.elements;
  are = (v.is, g.tabs, h.tabs, es.are);
  trees_are = cc;
  shallow = omega arith;
  spelled = cc;
}

pub array_begun : {n : ℕ} {inner rest : List ℕ} → IsGap false inner rest → IsInArray [] n (left_bracket ∷ inner) rest
array_begun g = record {
  ends = λ more end es.
      record { value = json.array g.gap es.elements; is = (g.tabs, es.are); tree_is = cc; shallow = omega arith; spelled = cc };
}

pub array_empty : {n : ℕ} {inner rest : List ℕ} → 1 ≤ n → IsGap false inner (right_bracket ∷ rest) → IsValue (array_tree []) n (left_bracket ∷ inner) rest
array_empty h g = record { value = json.empty_array g.gap; is = g.tabs; tree_is = refl; shallow = h; spelled = cc }

-- ---- objects

one_pair : {k t : Tree} {n : ℕ} {text at rest end : List ℕ} → IsKey k text at → IsValue t n at rest → IsGap false rest end → ArePairs ((k, t) ∷ []) n text end
one_pair key v g = record {
  members = json.last_member key.pieces key.after_key key.after_colon v.value g.gap;
  are = (key.are, key.tabs_after_key, key.tabs_after_colon, v.is, g.tabs);
  pairs_are = cc;
  shallow = v.shallow;
  spelled = cc;
}

pair_before : {k t : Tree} {ps : List (Tree × Tree)} {n : ℕ} {text at rest behind next end : List ℕ} → IsKey k text at → IsValue t n at rest
    → IsGap false rest (comma ∷ behind) → IsGap false behind next → ArePairs ps n next end → ArePairs ((k, t) ∷ ps) n text end
pair_before key v g h ms = record {
  members = json.member key.pieces key.after_key key.after_colon v.value g.gap h.gap ms.members;
  are = (key.are, key.tabs_after_key, key.tabs_after_colon, v.is, g.tabs, h.tabs, ms.are);
  pairs_are = cc;
  shallow = omega arith;
  spelled = cc;
}

pub object_begun : {n : ℕ} {inner rest : List ℕ} → IsGap false inner rest → IsInObject [] n (left_brace ∷ inner) rest
object_begun g = record {
  distinct = tt;
  ends = λ more end ms distinct. record {
    value = json.object g.gap ms.members;
    is = (g.tabs, ms.are, rw ms.pairs_are distinct);
    tree_is = cc;
    shallow = omega arith;
    spelled = cc;
  };
}

pub object_empty : {n : ℕ} {inner rest : List ℕ} → 1 ≤ n → IsGap false inner (right_brace ∷ rest) → IsValue (hash_tree []) n (left_brace ∷ inner) rest
object_empty h g = record { value = json.empty_object g.gap; is = g.tabs; tree_is = refl; shallow = h; spelled = cc }

-- ---- a pair with a new key

lookup_new : (k v : Tree) (ps : List (Tree × Tree)) → lookup k ps ≡ None → Lacks k ps × (without k ps ≡ ps)
lookup_new k v [] e = (tt, refl)
lookup_new k v (p ∷ ps) e = by (tree_eq k p.0) refl e (lookup_new k v ps)
  where
    by : (b : Bool) → tree_eq k p.0 ≡ b → cond b (Some p.1) (lookup k ps) ≡ None → (lookup k ps ≡ None → Lacks k ps × (without k ps ≡ ps)) → Lacks k (p ∷ ps) × (cond b ps (p ∷ without k ps) ≡ p ∷ ps)
    by true f g more = cc
    by false f g more = let r = more g in ((λ same. true≢false (sym ((tree_eq_decides k p.0).1 same) ∙ f), r.0), ap (λ x. p ∷ x) r.1)

pub pair_added : (k v : Tree) (ps qs : List (Tree × Tree)) → lookup k ps ≡ None → qs ≡ insert k v ps → Adds ps k v qs
pair_added k v ps qs e is =
    let r = lookup_new k v ps e in
    let pairs : qs ≡ ps ++ (k, v) ∷ [] = is ∙ ap (λ x. x ++ (k, v) ∷ []) r.1 in
    record { pairs = pairs; distinct = λ d. subst AreDistinct (sym pairs) (AreDistinct-append k v ps d r.0) }

-- ---- what the innermost takes

pub member_put : {ps qs : List (Tree × Tree)} {k next t : Tree} {r0 r1 r2 r3 : List ℕ} → Adds ps k t qs → IsGap false r0 (44 ∷ r1)
    → IsGap false r1 r2 → IsKey next r2 r3 → PutsMember ps k t false qs next r0 r3
member_put {qs = qs} {k} {t = t} {r2 = r2} a g h key n text at o v = record {
  at = r2;
  before = record {
    distinct = a.distinct o.before.distinct;
    ends = λ more end ms still.
        let same = ap (λ x. x ++ more) a.pairs ∙ append_assoc _ ((k, t) ∷ []) more in
        rw same (o.before.ends ((k, t) ∷ more) end (pair_before o.key_is v g h ms) (rw same at still));
  };
  key_is = key;
}

pub member_last : {ps qs : List (Tree × Tree)} {k t : Tree} {r0 r1 : List ℕ} (next : Tree) → Adds ps k t qs → IsGap false r0 (125 ∷ r1)
    → PutsMember ps k t true qs next r0 r1
member_last next a g n text at o v = rw a.pairs (o.before.ends _ _ (one_pair o.key_is v g) (rw a.pairs at (a.distinct o.before.distinct)))

pub item_put : {ts : List Tree} {t : Tree} {r0 r1 r2 : List ℕ} → IsGap false r0 (44 ∷ r1) → IsGap false r1 r2
    → PutsItem ts t false (ts ++ t ∷ []) r0 r2
item_put {t = t} g h n text at a v = record { ends = λ more end es. rw append_assoc (a.ends (t ∷ more) end (item_before v g h es)) }

pub item_last : {ts : List Tree} {t : Tree} {r0 r1 : List ℕ} → IsGap false r0 (93 ∷ r1) → PutsItem ts t true (ts ++ t ∷ []) r0 r1
item_last g n text at a v = a.ends _ _ (one_item v g)

pub key_read : {value r0 r1 r2 r3 : List ℕ} → IsStringEnd value r0 r1 → IsGap false r1 (58 ∷ r2) → IsGap false r2 r3
    → IsKey (Tree.string value) (34 ∷ r0) r3
key_read s g h = record {
  pieces = s.pieces;
  are = s.are;
  key_is = cc;
  after_key = g.gap;
  after_colon = h.gap;
  tabs_after_key = g.tabs;
  tabs_after_colon = h.tabs;
  spelled = cc;
}
