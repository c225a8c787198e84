-- Marks that stand for those of a tree are seen so along the tree.
use Rattle.yaml_loader.proofs.Common.{[], all_shown, AllFit, AllHaveMarks, AllStand, ap, arith, array, beside, bytes_eq, bytes_eq-Decides, chars, encode_utf8_all, encodes-chars, Fits, get_items_view, get_or, hash, HasMarks, IsUtf8, IsUtf8-string_bytes, item, item_marks, Items, items_of, items_view, ItemsFit, ItemsHaveMarks, length, List, list_of_items, list_of_parts, Mark, marked_items, marked_pairs, Marks, marks, no_items, no_pairs, no_parts, node_at_place, None, Option, option_and_then, option_map, pair, pair_list_of_pairs, Pairs, pairs_beside, pairs_marks, pairs_of, pairs_shown, PairsFit, PairsHaveMarks, part, Parts, parts_at, PartsStand, refl, same_from_decides, shown_marks, slice_get, Some, Stands, String, string, string_bytes, string_chars, subst, suc, sym, Tree, tree_eq, view, Yaml, zero, ℕ, ◌<◌, ◌∙◌, ◌∷◌, ◌≡◌, ◌≤◌}
use Rattle.defs_tree.proofs.OrderLaws.{tree_eq_decides}
use Rattle.std.proofs.lemmas.Option.{slice_get_past, slice_get_read}

module _ (table : List Mark) where
  mutual
    seen : (t : Tree) (m : Mark) (s : Marks) → Stands table m s → Fits t s → HasMarks table t m × (shown_marks table t m ≡ s)
    seen (array ts) m (marks own tree ps) h f = let r = seen_items ts (parts_at table m) ps h.3 f in ((h.2, r.0), λ i. marks (h.0 i) (h.1 i) (r.1 i))
    seen (hash qs) m (marks own tree ps) h f = let r = seen_pairs qs (parts_at table m) ps h.3 f in ((h.2, r.0), λ i. marks (h.0 i) (h.1 i) (r.1 i))
    seen t m (marks own tree ps) h f = (tt, λ i. marks (h.0 i) (h.1 i) (sym f i))

    seen_items : (ts : Items) (ms : List Mark) (ps : Parts) → PartsStand table ms ps → ItemsFit ts ps → ItemsHaveMarks table ts ms × (item_marks table ts ms ≡ ps)
    seen_items no_items [] no_parts h f = (tt, refl)
    seen_items (item t ts) (m ∷ ms) (part s ps) h f =
        let a = seen t m s h.0 f.0 in
        let b = seen_items ts ms ps h.1 f.1 in
        ((a.0, b.0), λ i. part (a.1 i) (b.1 i))
    seen_items no_items ms (part s ps) h f = absurd f
    seen_items (item t ts) ms no_parts h f = absurd f
    seen_items ts ms ps h f = absurd h

    seen_pairs : (qs : Pairs) (ms : List Mark) (ps : Parts) → PartsStand table ms ps → PairsFit qs ps → PairsHaveMarks table qs ms × (pairs_marks table qs ms ≡ ps)
    seen_pairs no_pairs [] no_parts h f = (tt, refl)
    seen_pairs (pair k v qs) (m ∷ n ∷ ms) (part s (part r ps)) h f =
        let a = seen k m s h.0 f.0 in
        let b = seen v n r h.1.0 f.1 in
        let c = seen_pairs qs ms ps h.1.1 f.2 in
        ((a.0, (b.0, c.0)), λ i. part (a.1 i) (part (b.1 i) (c.1 i)))
    seen_pairs no_pairs ms (part s ps) h f = absurd f
    seen_pairs (pair k v qs) ms no_parts h f = absurd f
    seen_pairs (pair k v qs) ms (part s no_parts) h f = absurd f
    seen_pairs (pair k v qs) (m ∷ []) (part s (part r ps)) h f = absurd h.1
    seen_pairs qs ms ps h f = absurd h

  pub all_seen : (ts : List Tree) (ms : List Mark) (ss : List Marks) → AllStand table ms ss → AllFit ts ss → AllHaveMarks table ts ms × (all_shown table ts ms ≡ ss)
  all_seen [] [] [] h f = (tt, refl)
  all_seen (t ∷ ts) (m ∷ ms) (s ∷ ss) h f =
      let a = seen t m s h.0 f.0 in
      let b = all_seen ts ms ss h.1 f.1 in
      ((a.0, b.0), λ i. a.1 i ∷ b.1 i)
  all_seen [] ms (s ∷ ss) h f = absurd f
  all_seen (t ∷ ts) ms [] h f = absurd f
  all_seen ts ms ss h f = absurd h

  -- ---- the parts as lists

  pub items_shown : (ts : List Tree) (ms : List Mark) → list_of_parts (item_marks table (items_of ts) ms) ≡ all_shown table ts ms
  items_shown [] ms = refl
  items_shown (t ∷ ts) [] = refl
  items_shown (t ∷ ts) (m ∷ ms) = ap (λ xs. shown_marks table t m ∷ xs) (items_shown ts ms)

  pub pairs_are_shown : (ps : List (Tree × Tree)) (ms : List Mark) → list_of_parts (pairs_marks table (pairs_of ps) ms) ≡ pairs_shown table ps ms
  pairs_are_shown (p ∷ ps) (m ∷ n ∷ ms) = ap (λ xs. shown_marks table p.0 m ∷ shown_marks table p.1 n ∷ xs) (pairs_are_shown ps ms)
  pairs_are_shown ps ms = refl

  all_have : (ts : List Tree) (ms : List Mark) → ItemsHaveMarks table (items_of ts) ms → AllHaveMarks table ts ms
  all_have [] [] h = h
  all_have (t ∷ ts) (m ∷ ms) h = (h.0, all_have ts ms h.1)
  all_have ts ms h = absurd h

  -- ---- the tree and its marks at a place

  abbrev node_with : Option Tree → Option Mark → Option (Tree × Marks)
  node_with (Some t) (Some m) = Some (t, shown_marks table t m)
  node_with _ _ = None

  no_mark_there : (o : Option Tree) → node_with o None ≡ None
  no_mark_there None = refl
  no_mark_there (Some t) = refl

  node_at : (ts : List Tree) (ms : List Mark) (i : ℕ) → slice_get (beside ts (all_shown table ts ms)) i ≡ node_with (slice_get ts i) (slice_get ms i)
  node_at [] ms i = refl
  node_at (t ∷ ts) [] i = sym (no_mark_there (slice_get (t ∷ ts) i))
  node_at (t ∷ ts) (m ∷ ms) zero = refl
  node_at (t ∷ ts) (m ∷ ms) (suc i) = node_at ts ms i

  -- a root's marks, without the root
  root_at : (ts : List Tree) (ms : List Mark) (i : ℕ) → slice_get (all_shown table ts ms) i ≡ option_map (λ n. n.1) (node_with (slice_get ts i) (slice_get ms i))
  root_at [] ms i = refl
  root_at (t ∷ ts) [] i = ap (option_map (λ n. n.1)) (sym (no_mark_there (slice_get (t ∷ ts) i)))
  root_at (t ∷ ts) (m ∷ ms) zero = refl
  root_at (t ∷ ts) (m ∷ ms) (suc i) = root_at ts ms i

  -- Where there is a tree, there is its mark.
  mark_at : (ts : List Tree) (ms : List Mark) (i : ℕ) (t : Tree) → slice_get ts i ≡ Some t → AllHaveMarks table ts ms → (m : Mark) × (slice_get ms i ≡ Some m) × HasMarks table t m
  mark_at [] ms i t e h = cc
  mark_at (u ∷ ts) [] i t e h = absurd h
  mark_at (u ∷ ts) (m ∷ ms) zero t e h = (m, refl, let same : u ≡ t = cc in subst (λ x. HasMarks table x m) same h.0)
  mark_at (u ∷ ts) (m ∷ ms) (suc i) t e h = mark_at ts ms i t e h.1

  has_mark : (ts : List Tree) (ms : List Mark) (i : ℕ) (t : Tree) (m : Mark) → slice_get ts i ≡ Some t → slice_get ms i ≡ Some m → AllHaveMarks table ts ms → HasMarks table t m
  has_mark ts ms i t m e f h = let r = mark_at ts ms i t e h in let same : r.0 ≡ m = let is = r.1 in cc in subst (λ n. HasMarks table t n) same r.2

-- ---- an array and a hash, by their nodes

module _ (table : List Mark) (m : Mark) where
  pub items_are : (t : Tree) (ts : List Tree) → t ≡ array (items_of ts) → Some (beside ts (all_shown table ts (parts_at table m))) ≡ marked_items t (shown_marks table t m)
  items_are t ts e = subst (λ u. Some (beside ts (all_shown table ts (parts_at table m))) ≡ marked_items u (shown_marks table u m)) (sym e)
      (λ i. Some (beside (sym (list_of_items ts) i) (sym (items_shown table ts (parts_at table m)) i)))

  pub pairs_are : (t : Tree) (ps : List (Tree × Tree)) → t ≡ hash (pairs_of ps) → Some (pairs_beside ps (pairs_shown table ps (parts_at table m))) ≡ marked_pairs t (shown_marks table t m)
  pairs_are t ps e = subst (λ u. Some (pairs_beside ps (pairs_shown table ps (parts_at table m))) ≡ marked_pairs u (shown_marks table u m)) (sym e)
      (λ i. Some (pairs_beside (sym (pair_list_of_pairs ps) i) (sym (pairs_are_shown table ps (parts_at table m)) i)))

-- nothing is left where no mark is
pub no_items_left : (table : List Mark) (ts : List Tree) (ms : List Mark) → length ms ≡ 0 → beside ts (all_shown table ts ms) ≡ []
no_items_left table (t ∷ ts) (m ∷ ms) e = absurd (omega arith)
no_items_left table ts ms e = refl

pub no_pairs_left : (table : List Mark) (ps : List (Tree × Tree)) (ms : List Mark) → length ms ≡ 0 → pairs_beside ps (pairs_shown table ps ms) ≡ []
no_pairs_left table (p ∷ ps) (m ∷ ms) e = absurd (omega arith)
no_pairs_left table ps ms e = refl

-- ---- what a lookup finds

-- a document, and its marks
module _ {zs ys : List Yaml} {ns ms : List Mark} (i : ℕ) (trees : zs ≡ ys) (roots : ns ≡ ms) where
  document : (y : Yaml) → i < length zs → y ≡ get_or zs i y → slice_get (items_view ys) i ≡ Some (view y)
  document y h e = get_items_view ys i ∙ ap (option_map view) (ap (λ l. slice_get l i) (sym trees) ∙ slice_get_read zs (length zs) i y refl h e)

  pub no_document : (table : List Mark) → length zs ≤ i → None ≡ slice_get (all_shown table (items_view ys) ms) i
  no_document table h =
      let none = get_items_view ys i ∙ ap (option_map view) (ap (λ l. slice_get l i) (sym trees) ∙ slice_get_past zs i h) in
      sym (root_at table (items_view ys) ms i ∙ ap (λ o. option_map (λ n. n.1) (node_with table o (slice_get ms i))) none)

  -- a document that has a tree has a mark
  pub unmarked_document : (table : List Mark) (y : Yaml) → i < length zs → y ≡ get_or zs i y → length ns ≤ i → AllHaveMarks table (items_view ys) ms → ⊥
  unmarked_document table y h e past all =
      let r = mark_at table (items_view ys) ms i (view y) (document y h e) all in
      let none = ap (λ l. slice_get l i) (sym roots) ∙ slice_get_past ns i past in
      let some = r.1 in
      cc

  pub found_document : {t table : List Mark} → t ≡ table → (y : Yaml) (m : Mark) → i < length zs → y ≡ get_or zs i y → i < length ns → m ≡ get_or ns i m → AllHaveMarks table (items_view ys) ms
      → HasMarks t (view y) m × (Some (shown_marks t (view y) m) ≡ slice_get (all_shown table (items_view ys) ms) i) × (Some (view y) ≡ slice_get (items_view ys) i)
  found_document {t} {table} is y m h e k g all =
      let tree = document y h e in
      let mark = ap (λ l. slice_get l i) (sym roots) ∙ slice_get_read ns (length ns) i m refl k g in
      let shown : slice_get (all_shown table (items_view ys) ms) i ≡ Some (shown_marks table (view y) m) =
      root_at table (items_view ys) ms i ∙ (λ j. option_map (λ n. n.1) (node_with table (tree j) (mark j))) in (
        subst (λ l. HasMarks l (view y) m) (sym is) (has_mark table (items_view ys) ms i (view y) m tree mark all),
        subst (λ l. Some (shown_marks l (view y) m) ≡ slice_get (all_shown table (items_view ys) ms) i) (sym is) (sym shown),
        sym tree,
      )

module _ (table : List Mark) (m : Mark) (i : ℕ) (t : Tree) (ts : List Tree) (is : t ≡ array (items_of ts)) where
  node_there : node_at_place i t (shown_marks table t m) ≡ node_with table (slice_get ts i) (slice_get (parts_at table m) i)
  node_there = ap (λ o. option_and_then (λ ns. slice_get ns i) o) (sym (items_are table m t ts is)) ∙ node_at table ts (parts_at table m) i

  pub no_node_tree : None ≡ slice_get ts i → None ≡ node_at_place i t (shown_marks table t m)
  no_node_tree e = sym (node_there ∙ ap (λ o. node_with table o (slice_get (parts_at table m) i)) (sym e))

  pub no_node_mark : (ms : List Mark) → ms ≡ parts_at table m → length ms ≤ i → None ≡ node_at_place i t (shown_marks table t m)
  no_node_mark ms parts h =
      let past = ap (λ l. slice_get l i) (sym parts) ∙ slice_get_past ms i h in
      sym (node_there ∙ ap (node_with table (slice_get ts i)) past ∙ no_mark_there table (slice_get ts i))

  pub node_found : (u : Tree) (n : Mark) (ms : List Mark) → ms ≡ parts_at table m → Some u ≡ slice_get ts i → i < length ms → n ≡ get_or ms i n → HasMarks table t m
      → HasMarks table u n × (Some (u, shown_marks table u n) ≡ node_at_place i t (shown_marks table t m))
  node_found u n ms parts tree h e has =
      let mark = ap (λ l. slice_get l i) (sym parts) ∙ slice_get_read ms (length ms) i n refl h e in
      let all = all_have table ts (parts_at table m) (subst (λ u. HasMarks table u m) is has).1 in
      (has_mark table ts (parts_at table m) i u n (sym tree) mark all, sym (node_there ∙ (λ j. node_with table (sym tree j) (mark j))))

-- ---- texts

pub text_is : {A : Type 0} (own : String A) (text : List ℕ) → IsUtf8 text → bytes_eq (string_bytes own) text ≡ tree_eq (string (chars text)) (string (string_chars own))
unfolding string_chars
text_is own text utf8 =
    let d = bytes_eq-Decides (string_bytes own) text in
    let back : string (chars text) ≡ string (chars (string_bytes own)) → string_bytes own ≡ text =
    λ e. let same : chars text ≡ chars (string_bytes own) = cc in sym (encodes-chars (string_bytes own) (IsUtf8-string_bytes own)) ∙ ap encode_utf8_all (sym same) ∙ encodes-chars text utf8 in
    same_from_decides _ _ (λ e. ap (λ b. string (chars b)) (sym (d.0 e)), λ e. d.1 (back e)) (tree_eq_decides (string (chars text)) (string (chars (string_bytes own))))
