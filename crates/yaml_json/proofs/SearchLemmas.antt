-- The search for the first node that has no JSON text.
use Rattle.yaml_json.proofs.Common.{[], ap, ArePlain, arith, array, below, Bool, false, Fault, fault_in, fault_left, first_fault, first_item_fault, first_member_fault, first_of, get_or, get_or-eq_default, get_or-map, get_or_default, Global, hash, index, is_block, IsKeyGiven, IsMet, IsSoundAtRoot, item, Items, items_view, last_step, left_in, length, Level, List, max, Meets, nesting, no_items, no_pairs, None, null, Option, pair, Pairs, part_nesting, part_nodes, refl, Some, step_in, step_of, String, suc, Tree, tree_left, true, view, Yaml, ℕ, ◌+◌, ◌<◌, ◌∙◌, ◌∷◌, ◌≡◌, ◌≤◌}
use Rattle.defs_tree.specs.Path as tree_path
use Rattle.yaml_json.proofs.LeftLemmas.{before_value, IsNext, member_next, part_count, part_wide, passed_to, reach, trees, weight}
use Rattle.yaml_json.specs.declared.error.Reason.{Reason}
use Rattle.yaml_tree.specs.declared.yaml.Yaml.TheVariants as yamls

-- the next value, by itself
pub value_next : (row : List Yaml) (n : ℕ) (v : Yaml) → n + 1 < length row → v ≡ get_or row (n + 1) v
    → IsNext (left_in true row n) n (before_value (view (get_or row n v))) (IsKeyGiven (view (get_or row n v))) (step_in true row (n + 2))
    (view v) (left_in true row (n + 2)) (n + 2)
value_next row n v h is = member_next row n (get_or row n v) v h (get_or_default row n v _ (omega arith)) is

-- ---- a level

pub flat_nesting : (t : Tree) → is_block t ≡ false → nesting t ≤ 1
flat_nesting a b = grind arith

-- nodes without a fault and without parts were passed
pub record Passes (t : Tree) (passed : ℕ) (u : Tree) (more : ℕ) : Type 0 where
  pub fault : fault_left passed t ≡ fault_left more u
  pub no_deeper : part_nesting t ≤ max 1 (part_nesting u)
  pub no_higher : part_nesting u ≤ part_nesting t
  pub fewer : part_nodes u ≤ part_nodes t

module _ {t u : Tree} {p q : ℕ} (a : Passes t p u q) where
  module _ {before : Bool → Option ℕ → ℕ → List ℕ} {K : Type 0} {s : tree_path.Step} {part x : Tree} {r : ℕ}
      (b : IsNext u q before K s part x r) where
    pub passes_more : (first_fault part ≡ None) × (is_block part ≡ false) → Passes t p x r
    passes_more f = record {
      fault = a.fault ∙ b.fault ∙ ap (λ o. first_of (below s o) (fault_left r x)) f.0;
      no_deeper = omega (arith, a.no_deeper, b.deepest, flat_nesting part f.1);
      no_higher = omega (arith, a.no_higher, b.deepest);
      fewer = omega (arith, a.fewer, b.fewer);
    }

    pub meets : Meets t p s part x r
    meets = record {
      fault = a.fault ∙ b.fault;
      no_deeper = omega (arith, a.no_deeper, b.deepest);
      no_higher = omega (arith, a.no_higher, b.deepest);
      fewer = omega (arith, a.fewer, b.fewer);
    }

  pub no_more_members : u ≡ hash no_pairs → ArePlain p t
  no_more_members e = (a.fault ∙ ap (fault_left q) e, omega (arith, a.no_deeper, ap part_nesting e))

-- a node that was met without a reason
pub has_parts_met : (t : Tree) (o : Option Reason) → ((r : Reason) → o ≡ Some r → ⊥) → IsMet t o → IsMet t None
has_parts_met t a n h = grind arith

-- a fault of the parts lies below the node
below_sound : (s : tree_path.Step) (o q : Option Fault) → IsSoundAtRoot q → IsSoundAtRoot (first_of (below s o) q)
below_sound s a q h = grind arith

items_sound : (n : ℕ) (ts : Items) → IsSoundAtRoot (first_item_fault n ts)
items_sound n no_items = tt
items_sound n (item t ts) = below_sound (index n) (first_fault t) (first_item_fault (n + 1) ts) (items_sound (n + 1) ts)

members_sound : (ps : Pairs) → IsSoundAtRoot (first_member_fault ps)
members_sound no_pairs = tt
members_sound (pair k v ps) = below_sound (step_of k) (first_fault v) (first_member_fault ps) (members_sound ps)

pub left_sound : (t : Tree) → IsSoundAtRoot (fault_left 0 t)
left_sound (array ts) = items_sound 0 ts
left_sound (hash ps) = members_sound ps
left_sound t = tt

-- ---- levels

-- the open levels, the one that is searched, how many they are, and how many they were at most
pub record Searches (root : Tree) (os : List Level) (l : Level) (depth deepest : ℕ) : Type 0 where
  pub fault : first_fault root ≡ fault_in os (fault_left l.passed (tree_left l))
  pub no_deeper : nesting root ≤ max (suc deepest) (reach (trees (l ∷ os)))
  pub no_higher : reach (trees (l ∷ os)) ≤ nesting root
  pub count : depth ≡ suc (length (trees os))
  pub most : depth ≤ deepest
  pub within : deepest ≤ nesting root

module _ {root : Tree} {os : List Level} {l : Level} {d k : ℕ} (h : Searches root os l d k) where
  -- a part was met: the level with it passed
  module _ {met : Tree} (m : ℕ) (p : Meets (tree_left l) l.passed (last_step (passed_to l m)) met (tree_left (passed_to l m)) m) where
    -- it has parts: the level of these
    pub searches_in : {e n : ℕ} (i : Level) → (first_fault met ≡ fault_left 0 met) × (is_block met ≡ true) → tree_left i ≡ met → i.passed ≡ 0 → e ≡ d + 1 → n ≡ max k e
        → Searches root (passed_to l m ∷ os) i e n
    searches_in i f g z c x =
        let own = part_wide met f.1 in
        let same = ap part_nesting g in
        record {
          fault = rw (g, z, ← f.0, ← p.fault) h.fault;
          no_deeper = omega (arith, h.no_deeper, p.no_deeper, own, same, x);
          no_higher = omega (arith, h.no_higher, p.no_higher, own, same);
          count = omega (arith, c, h.count);
          most = omega (arith, x);
          within = omega (arith, x, c, h.within, h.count, h.no_higher, p.no_higher, own);
        }

    pub smaller_in : (i : Level) → is_block met ≡ true → tree_left i ≡ met
        → weight (trees (i ∷ passed_to l m ∷ os)) < weight (trees (l ∷ os))
    smaller_in i b g = omega (arith, p.fewer, part_count met b, ap part_nodes g)

  -- all levels are done
  pub done : os ≡ [] → ArePlain l.passed (tree_left l) → (first_fault root ≡ None) × (nesting root ≤ k + 1) × (k ≤ nesting root)
  done e p =
      let none = ap (λ x. length (trees x)) e in
      let low = ap (λ x. reach (trees (l ∷ x))) e in
      (h.fault ∙ ap (λ x. fault_in x (fault_left l.passed (tree_left l))) e ∙ p.0, omega (arith, low, p.1, h.no_deeper, h.count, h.most), h.within)

-- ---- the path to it

-- a path with a step
pub is_below : (ls : List Level) (f : Fault) → (f.path ≡ [] → ⊥) → IsSoundAtRoot (fault_in ls (Some f))
is_below [] f h = h
is_below (l ∷ ls) f h = is_below ls (record { path = last_step l ∷ f.path; reason = f.reason }) (λ e. cc)

-- the step to the value of a key that is no string
pub other_step : (y : Yaml) → ((x : String Global) → y ≡ yamls.String x → ⊥) → step_of (view y) ≡ tree_path.key []
other_step (yamls.String s) h = absurd (h s refl)
other_step y h = refl

-- where there is no such key
pub no_step : (row : List Yaml) (n m : ℕ) → m ≡ n → length row ≤ m → step_of (get_or (items_view row) n null) ≡ tree_path.key []
no_step row n m e h = ap step_of (get_or-map view row n yamls.Null ∙ ap view (get_or-eq_default row yamls.Null {n = n} (omega (arith, e, h))))
