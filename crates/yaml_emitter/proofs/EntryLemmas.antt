-- The text of arrays and hashes, entry by entry.
use Rattle.yaml_emitter.proofs.Common.{[], add-one, after_mark, ap, append_assoc, arith, array, before_entry, below, Bool, box, codes, entries_text, false, hash, hung, hung_lower, if_none, if◌then◌else◌, indented, is_block, is_scalar, IsTrue, item, item_boxes, Items, levels, List, new_line, no_items, no_pairs, not, pair, pair_box, pair_boxes, pair_text, Pairs, placed, refl, spaces, spelling, stacked, string, suc, sym, Tree, true, zero, ℕ, ◌&&◌, ◌++◌, ◌+◌, ◌↔◌, ◌∙◌, ◌∷◌, ◌≡◌, ◌≤◌}
use Rattle.yaml_tree.specs.Weight.{nodes}

-- ---- arrays and hashes that aren't empty

-- what the test `is_empty` tells
pub by_empty : {X : Type 0} (holds : Bool → List X → Type 0) → holds false [] → ((x : X) (xs : List X) → holds true (x ∷ xs))
    → (b : Bool) (xs : List X) → (IsTrue b ↔ (xs ≡ [])) → holds (not b) xs
by_empty holds none some true [] h = none
by_empty holds none some false (x ∷ xs) h = some x xs
by_empty holds none some true (x ∷ xs) h = let e = h.0 refl in cc
by_empty holds none some false [] h = let e = h.1 refl in cc

-- ---- lines two columns further to the right

spaces_end : (n : ℕ) (x : List ℕ) → spaces n ++ 32 ∷ 32 ∷ x ≡ 32 ∷ 32 ∷ (spaces n ++ x)
spaces_end zero x = refl
spaces_end (suc n) x = ap (λ t. 32 ∷ 32 ∷ t) (spaces_end n x)

deeper_line : (n : ℕ) (x : List ℕ) → new_line n ++ 32 ∷ 32 ∷ x ≡ new_line (n + 1) ++ x
deeper_line n x = ap (λ t. 10 ∷ t) (spaces_end n x) ∙ ap (λ k. new_line k ++ x) (sym (add-one n))

below_indented : (n : ℕ) (ls : List (List ℕ)) → below n (indented ls) ≡ below (n + 1) ls
below_indented n [] = refl
below_indented n (l ∷ ls) = rw (below_indented n ls) (deeper_line n (l ++ below (n + 1) ls))

below_append : (n : ℕ) (a b : List (List ℕ)) → below n (a ++ b) ≡ below n a ++ below n b
below_append n [] b = refl
below_append n (l ∷ a) b = rw (below_append n a b) (simp append_assoc)

-- ---- boxes, which all have a line

pub data HasLines : List (List ℕ) → Type 0 where
  lines : (l : List ℕ) (ls : List (List ℕ)) → HasLines (l ∷ ls)

if_none_lines : (text : List ℕ) (ls : List (List ℕ)) → HasLines (if_none text ls)
if_none_lines a b = grind (arith, lines)

if_lines : {a b : List (List ℕ)} (x : Bool) → HasLines a → HasLines b → HasLines (if x then a else b)
if_lines true h k = h
if_lines false h k = k

pub box_lines : (compact multiline at_root : Bool) (t : Tree) → HasLines (box compact multiline at_root t)
box_lines c m r (string s) = if_lines _ (lines _ _) (lines _ _)
box_lines c m r (array ts) = if_none_lines (codes "[]") (item_boxes c m ts)
box_lines c m r (hash ps) = if_none_lines (codes "{}") (pair_boxes c m ps)
box_lines c m r t = lines _ _

stacked_append : (n : ℕ) {a : List (List ℕ)} (b : List (List ℕ)) → HasLines a → stacked n (a ++ b) ≡ stacked n a ++ below n b
stacked_append n b (lines l ls) = ap (λ t. l ++ t) (below_append n ls b) ∙ sym (append_assoc l (below n ls) (below n b))

below_stacked : (n : ℕ) {a : List (List ℕ)} → HasLines a → below n a ≡ new_line n ++ stacked n a
below_stacked n (lines l ls) = refl

placed_lines : (b : Bool) (mark : List ℕ) (t : Tree) {ls : List (List ℕ)} → HasLines ls → HasLines (placed b mark t ls)
placed_lines b mark t (lines l ls) = if_lines (b && is_block t) (lines mark (indented (l ∷ ls))) (lines (mark ++ 32 ∷ l) (indented ls))

-- a box hung on a mark
pub placed_at : (lower : Bool) (mark : List ℕ) (level : ℕ) (t : Tree) {ls : List (List ℕ)} → HasLines ls → stacked level (placed lower mark t ls) ≡ mark ++ after_mark lower level t ls
placed_at lower mark level t (lines l ls) = by (lower && is_block t)
  where
    by : (x : Bool) → stacked level (if x then hung_lower mark (l ∷ ls) else hung mark (l ∷ ls)) ≡ mark ++ ((if x then new_line (level + 1) else codes " ") ++ stacked (level + 1) (l ∷ ls))
    by true = ap (λ t. mark ++ t) (below_indented level (l ∷ ls))
    by false = ap (λ t. (mark ++ 32 ∷ l) ++ t) (below_indented level ls) ∙ append_assoc mark (32 ∷ l) (below (level + 1) ls)

-- ---- entries

-- those that are left, the first one apart
next_entry : (first : Bool) (level : ℕ) {a : List (List ℕ)} {text : List ℕ} (b : List (List ℕ)) → HasLines a → stacked level a ≡ text
    → entries_text first level (a ++ b) ≡ before_entry first level ++ (text ++ below level b)
next_entry true level b h e = rw (stacked_append level b h, e) refl
next_entry false level {a} b h e = rw (below_append level a b, below_stacked level h, e) (append_assoc (new_line level) _ _)

pub next_item : (c m first : Bool) (level : ℕ) (t : Tree) (ts : Items)
    → entries_text first level (item_boxes c m (item t ts))
    ≡ before_entry first level ++ ((codes "-" ++ after_mark (not c) level t (box c m false t)) ++ entries_text false level (item_boxes c m ts))
next_item c m first level t ts =
    let h = box_lines c m false t in
    next_entry first level (item_boxes c m ts) (placed_lines (not c) (codes "-") t h) (placed_at (not c) (codes "-") level t h)

-- a pair
pair_lines : (c m : Bool) (k v : Tree) → HasLines (pair_box c k (box c m false k) v (box c m false v))
pair_lines c m k v =
    if_lines (is_scalar k) (placed_lines true (spelling k ++ codes ":") v (box_lines c m false v))
    (longer _ (placed_lines (not c) (codes "?") k (box_lines c m false k)))
  where
    longer : {a : List (List ℕ)} (b : List (List ℕ)) → HasLines a → HasLines (a ++ b)
    longer b (lines l ls) = lines l (ls ++ b)

pair_at : (c m : Bool) (level : ℕ) (k v : Tree) → stacked level (pair_box c k (box c m false k) v (box c m false v)) ≡ pair_text c m level k v
pair_at c m level k v = by (is_scalar k) refl
  where
    by : (x : Bool) → is_scalar k ≡ x → stacked level (pair_box c k (box c m false k) v (box c m false v)) ≡ pair_text c m level k v
    by true e = rw (e, placed_at true (spelling k ++ codes ":") level v (box_lines c m false v)) (append_assoc (spelling k) (codes ":") _)
    by false e =
        let key = box_lines c m false k in
        let value = box_lines c m false v in
        let after = placed_lines (not c) (codes ":") v value in
        let apart = stacked_append level (placed (not c) (codes ":") v (box c m false v)) (placed_lines (not c) (codes "?") k key) in
        rw (e, apart, placed_at (not c) (codes "?") level k key, below_stacked level after, placed_at (not c) (codes ":") level v value)

pub next_pair : (c m first : Bool) (level : ℕ) (k v : Tree) (ps : Pairs)
    → entries_text first level (pair_boxes c m (pair k v ps))
    ≡ before_entry first level ++ (pair_text c m level k v ++ entries_text false level (pair_boxes c m ps))
next_pair c m first level k v ps = next_entry first level (pair_boxes c m ps) (pair_lines c m k v) (pair_at c m level k v)

-- a box that isn't the short form of an empty one
not_empty : (level : ℕ) (short : List ℕ) {a : List (List ℕ)} (b : List (List ℕ)) → HasLines a
    → stacked level (if_none short (a ++ b)) ≡ stacked level (a ++ b)
not_empty level short b (lines l ls) = refl

pub items_text : (c m : Bool) (level : ℕ) (ts : Items) → is_block (array ts) ≡ true → stacked level (box c m false (array ts)) ≡ entries_text true level (item_boxes c m ts)
items_text c m level no_items h = cc
items_text c m level (item t ts) h = not_empty level (codes "[]") _ (placed_lines (not c) (codes "-") t (box_lines c m false t))

pub pairs_text : (c m : Bool) (level : ℕ) (ps : Pairs) → is_block (hash ps) ≡ true → stacked level (box c m false (hash ps)) ≡ entries_text true level (pair_boxes c m ps)
pairs_text c m level no_pairs h = cc
pairs_text c m level (pair k v ps) h = not_empty level (codes "{}") (pair_boxes c m ps) (pair_lines c m k v)

-- ---- levels and nodes

pub at_least_one : (t : Tree) → 1 ≤ nodes t
at_least_one a = grind arith

pub two_levels : (t : Tree) → is_block t ≡ true → 2 ≤ levels t
two_levels a h = grind arith
