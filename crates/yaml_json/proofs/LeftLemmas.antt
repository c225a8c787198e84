-- What is left to write and to search of arrays and objects, and of levels one in another.
use Rattle.yaml_json.proofs.Common.{[], ap, append_assoc, AreGiven, ArePairsGiven, ArePartsGiven, arith, array, before_entry, below, Bool, closing, deeper, depth, drop, drop_more, Ends, Entries, false, fault_left, first_fault, first_of, flat_text, get_or, hash, hash_tree, is_block, is_low, IsFlatGiven, IsGiven, IsKeyGiven, IsLeft, IsTooWide, item, item_nesting, Items, items_depth, items_left, items_of, items_view, json_text, key_end, key_text, left_after, left_as, left_in, left_none, left_stopped, length, length-drop, length-map, length-reverse, length-take-le, Level, List, map, max, member_nesting, members_left, more_items, more_members, mul-le-mul_left, nesting, new_line, no_pairs, nodes, null, OnErr, opening, Option, pair, paired, Pairs, pairs_depth, pairs_of, part_nesting, part_nodes, parts_left, refl, Result, reverse, reverse-append, set, Step, step_in, Stopped, stopped_as, stopped_early, stopped_late, Stops, subst, suc, sym, take, take-set_at, take_more, Tree, tree_left, true, unwrap_or, view, Wrote, Yaml, ℕ, ◌*◌, ◌++◌, ◌+◌, ◌-◌, ◌<◌, ◌∙◌, ◌∷◌, ◌≡◌, ◌≢◌, ◌≤◌}
use Rattle.std.proofs.lemmas.List.{get_or-map}
use Rattle.yaml_json.proofs.GivenLemmas.{flat_given, flat_text_is}

-- ---- how wide

-- in a part that nests no deeper
pub wide_within : (i : Option ℕ) (m n k : ℕ) → n ≤ k → IsTooWide i m n → IsTooWide i m k
wide_within i m n k h w = let grown = mul-le-mul_left (unwrap_or i 0) h in omega arith

pub part_wide : (t : Tree) → is_block t ≡ true → nesting t ≡ suc (part_nesting t)
part_wide a b = grind arith

-- ---- arrays and objects with parts

pub low_brackets : (t : Tree) → (is_low (opening t) ≡ true) × (is_low (closing t) ≡ true)
low_brackets (array ts) = (refl, refl)
low_brackets t = (refl, refl)

-- the text between the brackets, and they
pub in_brackets : (i : Option ℕ) (m inner : ℕ) (t : Tree) → inner ≡ deeper i m → is_block t ≡ true
    → opening t ++ (parts_left true i inner t ++ (new_line i m ++ closing t)) ≡ json_text i m t
in_brackets i m inner (array (item t ts)) e b = rw e (simp append_assoc)
in_brackets i m inner (hash (pair k v ps)) e b = rw e (simp append_assoc)
in_brackets i m inner t e b = cc

-- the brackets as they are written
pub put_in_brackets : {before after : List ℕ} (i : Option ℕ) (m inner : ℕ) (t : Tree) → before ≡ opening t → after ≡ closing t
    → inner ≡ deeper i m → is_block t ≡ true → before ++ (parts_left true i inner t ++ (new_line i m ++ after)) ≡ json_text i m t
put_in_brackets i m inner t o c e b = rw (o, c) (in_brackets i m inner t e b)

-- ---- what is left of a level, part by part

pub later_items : (i : Option ℕ) (m : ℕ) (ts : Items) → more_items i m ts ≡ items_left false i m ts
later_items i m a = grind arith

pub later_members : (i : Option ℕ) (m : ℕ) (ps : Pairs) → more_members i m ps ≡ members_left false i m ps
later_members i m a = grind arith

-- The first part of what is left, where so many nodes were passed: what stands before it, the step to it, and what is left after it, with
-- so many nodes passed. `K` is what is given of its key.
pub record IsNext (t : Tree) (passed : ℕ) (before : Bool → Option ℕ → ℕ → List ℕ) (K : Type 0) (s : Step) (part u : Tree)
    (more : ℕ) : Type 0 where
  pub text : (first : Bool) (i : Option ℕ) (m : ℕ)
      → parts_left first i m t ≡ before first i m ++ (json_text i m part ++ parts_left false i m u)
  pub fault : fault_left passed t ≡ first_of (below s (first_fault part)) (fault_left more u)
  pub deepest : part_nesting t ≡ max (nesting part) (part_nesting u)
  pub fewer : nodes part + part_nodes u ≤ part_nodes t
  pub given : K → IsGiven part → ArePartsGiven u → ArePartsGiven t
  pub same : closing u ≡ closing t

next_node : (ys : List Yaml) (n : ℕ) (y : Yaml) → n < length ys → y ≡ get_or ys n y → items_view (drop n ys) ≡ view y ∷ items_view (drop (n + 1) ys)
next_node ys n y h is = ap items_view (drop_more ys n y h) ∙ ap (λ x. view x ∷ items_view (drop (n + 1) ys)) (sym is)

pub item_next : (row : List Yaml) (n : ℕ) (y : Yaml) → n < length row → y ≡ get_or row n y
    → IsNext (left_in false row n) n before_entry (Unit {0}) (step_in false row (n + 1)) (view y) (left_in false row (n + 1)) (n + 1)
item_next row n y h is =
    let at : n + 1 - 1 ≡ n = omega arith in
    rw (next_node row n y h is) (record {
      text = λ first i m. ap (λ r. before_entry first i m ++ (json_text i m (view y) ++ r)) (later_items i m _);
      fault = rw at refl;
      deepest = refl;
      fewer = omega arith;
      given = λ _ g gs. (g, gs);
      same = refl;
    })

-- what stands before a value
abbrev pub before_value : Tree → Bool → Option ℕ → ℕ → List ℕ
before_value k first i m = before_entry first i m ++ (key_text k ++ key_end i)

member_left : (row : List Yaml) (n : ℕ) (k v : Yaml) → n + 1 < length row → k ≡ get_or row n k → v ≡ get_or row (n + 1) v
    → left_in true row n ≡ hash (pair (view k) (view v) (pairs_of (paired (items_view (drop (n + 2) row)))))
member_left row n k v h ks vs = grind (arith, next_node)

pub member_next : (row : List Yaml) (n : ℕ) (k v : Yaml) → n + 1 < length row → k ≡ get_or row n k → v ≡ get_or row (n + 1) v
    → IsNext (left_in true row n) n (before_value (view k)) (IsKeyGiven (view k)) (step_in true row (n + 2)) (view v)
    (left_in true row (n + 2)) (n + 2)
member_next row n k v h ks vs =
    let at : n + 2 - 2 ≡ n = omega arith in
    let key : get_or (items_view row) n null ≡ view k = get_or-map view row n k null (omega arith) ∙ ap view (sym ks) in
    rw (member_left row n k v h ks vs) (record {
      text = λ first i m. simp (later_members, append_assoc);
      fault = rw (at, key) refl;
      deepest = refl;
      fewer = omega arith;
      given = λ g f fs. (g, f, fs);
      same = refl;
    })

few_paired : (ts : List Tree) → length ts ≤ 1 → paired ts ≡ []
few_paired a h = grind arith

-- a key alone has no value
pub no_member_left : (row : List Yaml) (n : ℕ) → length row ≤ n + 1 → left_in true row n ≡ hash no_pairs
no_member_left row n h =
    let e = length-map (drop n row) view ∙ length-drop n row in
    ap hash_tree (few_paired (items_view (drop n row)) (omega (arith, e)))

-- ---- what is written of an array or object, part by part

abbrev pub item_entries : Option ℕ → ℕ → Entries Tree
item_entries i m = record {
  members = record {
    own_depth = depth;
    depth = λ ts. items_depth (items_of ts);
    deepest = record { greatest = λ t ts. refl };
    IsFit = IsGiven;
    AreFit = λ ts. AreGiven (items_of ts);
    none_fit = tt;
    more_fit = λ t ts f fs. (f, fs);
  };
  own_levels = nesting;
  levels = λ ts. item_nesting (items_of ts);
  highest = record { greatest = λ t ts. refl };
  before = λ first. before_entry first i m;
  part = λ t. json_text i m t;
  text = λ first ts. items_left first i m (items_of ts);
  none_text = λ first. refl;
  more_text = λ first t ts. simp later_items;
}

abbrev pub member_entries : Option ℕ → ℕ → Entries (Tree × Tree)
member_entries i m = record {
  members = record {
    own_depth = λ p. max (depth p.0) (depth p.1);
    depth = λ ps. pairs_depth (pairs_of ps);
    deepest = record { greatest = λ p ps. refl };
    IsFit = λ p. IsKeyGiven p.0 × IsGiven p.1;
    AreFit = λ ps. ArePairsGiven (pairs_of ps);
    none_fit = tt;
    more_fit = λ p ps f fs. (f.0, f.1, fs);
  };
  own_levels = λ p. nesting p.1;
  levels = λ ps. member_nesting (pairs_of ps);
  highest = record { greatest = λ p ps. refl };
  before = λ first. before_entry first i m;
  part = λ p. key_text p.0 ++ (key_end i ++ json_text i m p.1);
  text = λ first ps. members_left first i m (pairs_of ps);
  none_text = λ first. refl;
  more_text = λ first p ps. simp (later_members, append_assoc);
}

-- ---- what was written of a level's parts

pub when_err : {A E P : Type 0} (r : Result A E) → P → OnErr r P
when_err a p = grind arith

-- some parts that have no parts were written
pub record Goes {W : Type 0} (gives : W → List ℕ → W → Type 0) (i : Option ℕ) (m : ℕ) (w : W) (first : Bool) (t : Tree) (v : W) (now : Bool) (u : Tree) : Type 0 where
  pub left : IsLeft gives w (parts_left first i m t) v (parts_left now i m u)
  pub no_higher : part_nesting u ≤ part_nesting t
  pub fewer : part_nodes u ≤ part_nodes t
  pub given : ArePartsGiven u → ArePartsGiven t
  pub same : closing u ≡ closing t

module _ {W : Type 0} {gives : W → List ℕ → W → Type 0} {i : Option ℕ} {m : ℕ} {w : W} {first : Bool} {t : Tree} {v : W} {now : Bool} {u : Tree} (h : Goes gives i m w first t v now u) where
  module _ {before : Bool → Option ℕ → ℕ → List ℕ} {K : Type 0} {s : Step} {part x : Tree} {p q : ℕ}
      (n : IsNext u p before K s part x q) where
    -- a part without parts
    pub goes_on : {a b : W} → K → Wrote gives v (before now i m) a → is_block part ≡ false → Wrote gives a (flat_text part) b
        → IsFlatGiven part → Goes gives i m w first t b false x
    goes_on k before flat part_is g = record {
      left = left_after (left_after (left_as (n.text now i m) h.left) before) (rw (flat_text_is part i m flat) at part_is);
      no_higher = omega (arith, h.no_higher, n.deepest);
      fewer = omega (arith, h.fewer, n.fewer);
      given = λ gs. h.given (n.given k (flat_given part flat g) gs);
      same = n.same ∙ h.same;
    }

    -- what stands before a part with parts
    pub goes_in : {a : W} → K → Wrote gives v (before now i m) a → is_block part ≡ true → Stops gives i m w first t a part x
    goes_in k before b = record {
      left = left_after (left_as (n.text now i m) h.left) before;
      has_parts = b;
      no_higher = omega (arith, h.no_higher, n.deepest);
      fewer = omega (arith, h.fewer, n.fewer);
      given = λ g gs. h.given (n.given k g gs);
      same = n.same ∙ h.same;
    }

    -- a call was refused before the part, or in one without parts
    pub stopped_before : {leaves : W → List ℕ → W → Type 0} {reason : Type 0} {a : W} → Stopped gives leaves reason v (before now i m) a
        → Stopped gives leaves reason w (parts_left first i m t) a
    stopped_before q = left_stopped (left_as (n.text now i m) h.left) (stopped_early _ q)

    pub stopped_in : {leaves : W → List ℕ → W → Type 0} {reason : Type 0} {a b : W} → Wrote gives v (before now i m) a
        → is_block part ≡ false → Stopped gives leaves reason a (flat_text part) b
        → Stopped gives leaves reason w (parts_left first i m t) b
    stopped_in before flat q =
        left_stopped (left_as (n.text now i m) h.left) (stopped_late before (stopped_early _ (stopped_as (flat_text_is part i m flat) q)))

  -- no part is left
  pub members_end : u ≡ hash no_pairs → Ends gives i m w first t v
  members_end e =
      record { wrote = left_none (left_as (ap (parts_left now i m) e) h.left); given = h.given (subst ArePartsGiven (sym e) tt) }

-- ---- levels one in another, the innermost first

-- what is left of levels
abbrev pub trees : List Level → List Tree
trees ls = map tree_left ls

-- a level, where so many nodes were passed
abbrev pub passed_to : Level → ℕ → Level
passed_to l n = record { row = l.row; passed = n; is_hash = l.is_hash }

-- how deep the deepest part of some levels stands
abbrev pub reach : List Tree → ℕ
reach [] = 0
reach (t ∷ ts) = max (suc (length ts) + part_nesting t) (reach ts)

-- It falls where a part is passed, where a level is opened, and where one is done.
abbrev pub weight : List Tree → ℕ
weight [] = 0
weight (t ∷ ts) = suc (2 * part_nodes t) + weight ts

-- a node that has parts
pub part_count : (t : Tree) → is_block t ≡ true → nodes t ≡ suc (part_nodes t)
part_count a b = grind arith

-- ---- levels in places made before

-- the levels that wait in the first places
abbrev pub waiting : ℕ → List Level → List Level
waiting n places = reverse (take n places)

pub one_more : (places : List Level) (n : ℕ) (l : Level) → n < length places → waiting (n + 1) (set places n l) ≡ l ∷ waiting n places
one_more places n l h = ap reverse (take-set_at places n (n + 1) l refl h) ∙ reverse-append (take n places) (l ∷ [])

pub one_less : (places : List Level) (n : ℕ) (l : Level) → n ≤ length places → n ≢ 0 → l ≡ get_or places (n - 1) l
    → trees (waiting n places) ≡ tree_left l ∷ trees (waiting (n - 1) places)
one_less places n l h z is =
    let up : n ≡ n - 1 + 1 = omega arith in
    ap (λ k. trees (waiting k places)) up
    ∙ ap (λ ls. trees (reverse ls)) (take_more places (n - 1) l (omega arith))
    ∙ ap trees (reverse-append (take (n - 1) places) (get_or places (n - 1) l ∷ []))
    ∙ ap (λ x. tree_left x ∷ trees (waiting (n - 1) places)) (sym is)

pub so_many : (places : List Level) (n : ℕ) → n ≤ length places → length (trees (waiting n places)) ≡ n
so_many places n h = length-map (waiting n places) tree_left ∙ length-reverse (take n places) ∙ length-take-le n places h
