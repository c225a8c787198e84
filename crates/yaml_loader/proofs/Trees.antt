-- The trees that a loader makes of events are no larger than what was made.
use Rattle.yaml_loader.proofs.LimitedCommon.{[], aliased, Anchors, AreAbove, AreNoDeeper, arith, array, at_work, bad_value, Bool, by_name, bytes_eq, codes, cond, core_prefix, document_extent, documents_size, Ev, extended, Extent, extent_at, false, false_words, has_key, HasDocuments, hash, if◌then◌else◌, insert, integer, is_among, is_decimal, is_real_text, items_extent, items_of, length, List, Loader, loader_after, Made, made, made_by, made_from, max, nat_eq, new_loader, None, nothing_made, Opened, opened_mapping, opened_sequence, opened_size, Option, option_map, pairs_extent, pairs_of, Position, reads, real, refl, scalar_extent, scalar_tree, signed_decimal, single_node, Some, Step, string, Style, subst, suc, sym, Tag, tag_size, Tree, tree_eq, tree_extent, true, true_words, typing, typing_plain, Unfinished, unwrap_or, with_document_end, with_end, with_event, with_event_at, with_events, with_kept, with_mapping_end, with_node, with_part, with_root, with_sequence_end, with_start, with_tag, with_tree, without, zero, ℕ, ℤ, ◌++◌, ◌+◌, ◌||◌, ◌∷◌, ◌≡◌, ◌≤◌}
use Rattle.defs_event.specs.Unfinished as reading
use Rattle.yaml_loader.proofs.CountLemmas.{above_more, part_above}
use Rattle.yaml_loader.proofs.JsonTexts.{either}
use Rattle.defs_tree.specs.Laws.{MayStandFor}

-- ---- extents that are no larger than others

pub record IsNoMore (x y : Extent) : Type 0 where
  pub size : x.size ≤ y.size
  pub levels : x.levels ≤ y.levels

pub same : (x : Extent) → IsNoMore x x
same x = record { size = omega arith; levels = omega arith }

-- ---- items and pairs

pub last_item : (ts : List Tree) (t : Tree) → IsNoMore (items_extent (items_of (ts ++ t ∷ []))) (extended (items_extent (items_of ts)) (tree_extent t))
last_item [] t = same (extended single_node (tree_extent t))
last_item (s ∷ ts) t = let more = last_item ts t in record { size = omega arith; levels = omega arith }

-- a pair's value, and its key, which the one before it may be
abbrev with_pair : Extent → Extent → Extent → Extent
with_pair c k v = extended (extended c k) v

last_pair : (ps : List (Tree × Tree)) (k v : Tree)
    → IsNoMore (pairs_extent (pairs_of (ps ++ (k, v) ∷ []))) (with_pair (pairs_extent (pairs_of ps)) (tree_extent k) (tree_extent v))
last_pair [] k v = same (with_pair single_node (tree_extent k) (tree_extent v))
last_pair (p ∷ ps) k v = let more = last_pair ps k v in record { size = omega arith; levels = omega arith }

without_one : (k : Tree) (ps : List (Tree × Tree)) → IsNoMore (pairs_extent (pairs_of (without k ps))) (pairs_extent (pairs_of ps))
without_one k [] = same single_node
without_one k (p ∷ ps) = by (tree_eq k p.0) (without_one k ps)
  where
    by : (b : Bool) → IsNoMore (pairs_extent (pairs_of (without k ps))) (pairs_extent (pairs_of ps))
        → IsNoMore (pairs_extent (pairs_of (cond b ps (p ∷ without k ps)))) (pairs_extent (pairs_of (p ∷ ps)))
    by true h = record { size = omega arith; levels = omega arith }
    by false h = record { size = omega arith; levels = omega arith }

pub inserted : (k v : Tree) (ps : List (Tree × Tree)) → IsNoMore (pairs_extent (pairs_of (insert k v ps))) (with_pair (pairs_extent (pairs_of ps)) (tree_extent k) (tree_extent v))
inserted k v ps =
    let last = last_pair (without k ps) k v in
    let less = without_one k ps in
    record { size = omega arith; levels = omega arith }

-- ---- scalars

-- a tree that is no larger than a scalar with this content
abbrev Fits : List ℕ → Tree → Type 0
Fits text t = IsNoMore (tree_extent t) (scalar_extent text)

single : (text : List ℕ) → IsNoMore single_node (scalar_extent text)
single text = record { size = omega arith; levels = omega arith }

of_plain : (text : List ℕ) (t : Tree) → MayStandFor text t → Fits text t
of_plain text (real s) h = subst (λ s. Fits text (real s)) (sym h) (same (scalar_extent text))
of_plain text (string s) h = subst (λ s. Fits text (string s)) (sym h) (same (scalar_extent text))
of_plain text (array ts) h = absurd h
of_plain text (hash ps) h = absurd h
of_plain text t h = single text

of_number : (text : List ℕ) (o : Option ℤ) → Fits text (unwrap_or (option_map integer o) bad_value)
of_number text None = single text
of_number text (Some z) = single text

of_name : (name text : List ℕ) → Fits text (by_name name text)
of_name name text =
    either (Fits text) (bytes_eq name (codes "bool")) _ _
    (either (Fits text) (is_among true_words text) _ _ (single text) (either (Fits text) (is_among false_words text) _ _ (single text) (single text)))
    (either (Fits text) (bytes_eq name (codes "int")) _ _ (of_number text (signed_decimal text))
    (either (Fits text) (bytes_eq name (codes "float")) _ _ (either (Fits text) (is_real_text text || is_decimal text) _ _ (same (scalar_extent text)) (single text))
    (either (Fits text) (bytes_eq name (codes "null")) _ _ (either (Fits text) (is_among (codes "~" ∷ codes "null" ∷ []) text) _ _ (single text) (single text))
    (same (scalar_extent text)))))

pub of_scalar : (text : List ℕ) (style : Style) (tag : Option Tag) → IsNoMore (tree_extent (scalar_tree text style tag)) (scalar_extent text)
of_scalar text Style.plain None = of_plain text (typing text) (typing_plain text)
of_scalar text Style.plain (Some t) = either (Fits text) (bytes_eq t.handle core_prefix) _ _ (of_name t.suffix text) (same (scalar_extent text))
of_scalar text _ tag = same (scalar_extent text)

-- ---- what is open, and the anchors

-- An open collection of trees, and its count.
abbrev IsHeld : reading.Opened → Opened → Type 0
IsHeld (opened_sequence a ts) c = (a ≡ c.anchor) × IsNoMore (items_extent (items_of ts)) c.extent
IsHeld (opened_mapping a ps None) c = (a ≡ c.anchor) × IsNoMore (pairs_extent (pairs_of ps)) c.extent
IsHeld (opened_mapping a ps (Some k)) c = (a ≡ c.anchor) × IsNoMore (extended (pairs_extent (pairs_of ps)) (tree_extent k)) c.extent

abbrev AreHeld : List reading.Opened → List Opened → Type 0
AreHeld [] [] = Unit {0}
AreHeld (o ∷ outer) (c ∷ counted) = IsHeld o c × AreHeld outer counted
AreHeld _ _ = ⊥

abbrev AreKept : Anchors → List (ℕ × Extent) → Type 0
AreKept anchors extents = (n : ℕ) → IsNoMore (tree_extent (aliased n anchors)) (extent_at n extents)

one_kept : (a : ℕ) (t : Tree) (x : Extent) (anchors : Anchors) (extents : List (ℕ × Extent)) → IsNoMore (tree_extent t) x → AreKept anchors extents
    → AreKept ((a, t) ∷ anchors) ((a, x) ∷ extents)
one_kept a t x anchors extents h kept n = by (nat_eq n a)
  where
    by : (b : Bool) → IsNoMore (tree_extent (if b then t else aliased n anchors)) (if b then x else extent_at n extents)
    by true = h
    by false = kept n

-- ---- documents

abbrev root_extent : Option Tree → Extent
root_extent None = record { size = 0; levels = 0 }
root_extent (Some t) = tree_extent t

of_root : (root : Option Tree) → IsNoMore (document_extent (unwrap_or root bad_value)) (root_extent root)
of_root None = same (record { size = 0; levels = 0 })
of_root (Some bad_value) = record { size = omega arith; levels = omega arith }
of_root (Some t) = same (tree_extent t)

last_document : (ts : List Tree) (t : Tree) → documents_size (ts ++ t ∷ []) ≡ documents_size ts + (document_extent t).size
last_document [] t = omega arith
last_document (s ∷ ts) t = let more = last_document ts t in omega arith

-- less deep than levels that are within a limit
pub no_deeper_than : (documents : List Tree) (k l : ℕ) → k ≤ l → AreNoDeeper k documents → AreNoDeeper l documents
no_deeper_than [] k l h a = tt
no_deeper_than (t ∷ ts) k l h a = let here = a.0 in (omega arith, no_deeper_than ts k l h a.1)

no_deeper_last : (ts : List Tree) (t : Tree) (l : ℕ) → AreNoDeeper l ts → (document_extent t).levels ≤ l → AreNoDeeper l (ts ++ t ∷ [])
no_deeper_last [] t l a h = (h, tt)
no_deeper_last (s ∷ ts) t l a h = (a.0, no_deeper_last ts t l a.1 h)

-- ---- a reading, and what was made

-- What was read, with these collections open, is no larger than so much, and no deeper.
record Holds (u : Unfinished) (outer : List reading.Opened) (opened : List Opened) (anchors : List (ℕ × Extent)) (size levels : ℕ) : Type 0 where
  held : AreHeld outer opened
  kept : AreKept u.anchors anchors
  size_is : documents_size u.documents + (root_extent u.root).size + opened_size opened ≤ size
  deep : AreNoDeeper levels u.documents
  root_deep : (root_extent u.root).levels ≤ levels
  above : AreAbove levels opened

abbrev IsMade : Unfinished → Made → Type 0
IsMade u m = Holds u u.opened m.opened m.anchors m.size m.levels

abbrev OfStep : Step → Made → Type 0
OfStep (reads u) m = IsMade u m
OfStep _ m = Unit {0}

module _ {u : Unfinished} {outer : List reading.Opened} {opened : List Opened} {anchors : List (ℕ × Extent)} {size levels : ℕ} (h : Holds u outer opened anchors size levels) where
  -- more was made
  more : (new_size new_levels : ℕ) → size ≤ new_size → levels ≤ new_levels → Holds u outer opened anchors new_size new_levels
  more new_size new_levels s l = record {
    held = h.held;
    kept = h.kept;
    size_is = omega arith;
    deep = no_deeper_than u.documents levels new_levels l h.deep;
    root_deep = omega arith;
    above = above_more opened levels new_levels l h.above;
  }

-- A node of this extent comes into these open collections.
module _ (t : Tree) (x : Extent) (no_more : IsNoMore (tree_extent t) x) (size levels : ℕ) where
  put_in : {u : Unfinished} {o : reading.Opened} {outer : List reading.Opened} {c : Opened} {opened : List Opened} {anchors : List (ℕ × Extent)} {s : ℕ}
      → Holds u (o ∷ outer) (c ∷ opened) anchors s levels → s + x.size ≤ size → length (c ∷ opened) + x.levels ≤ levels
      → (new : reading.Opened) → IsHeld new (record { anchor = c.anchor; extent = extended c.extent x })
      → IsMade (record u { opened = new ∷ outer }) (record { size = size; levels = levels; opened = with_part x (c ∷ opened); anchors = anchors })
  put_in {c = c} {opened = opened} h fits deep new is =
      record { held = (is, h.held.1); kept = h.kept; size_is = omega arith; deep = h.deep; root_deep = h.root_deep; above = part_above x (c ∷ opened) levels h.above deep }

  put : {u : Unfinished} {outer : List reading.Opened} {opened : List Opened} {anchors : List (ℕ × Extent)} {s : ℕ}
      → Holds u outer opened anchors s levels → s + x.size ≤ size → length opened + x.levels ≤ levels
      → OfStep (with_tree t u outer) (record { size = size; levels = levels; opened = with_part x opened; anchors = anchors })
  put {u = u} {outer = []} {opened = []} {anchors = anchors} {s = s} h fits deep = by u.root h.size_is
    where
      by : (root : Option Tree) → documents_size u.documents + (root_extent root).size + 0 ≤ s
          → OfStep (with_root t u root) (record { size = size; levels = levels; opened = []; anchors = anchors })
      by None all = record { held = tt; kept = h.kept; size_is = omega arith; deep = h.deep; root_deep = omega arith; above = tt }
      by (Some root) all = tt
  put {u = u} {outer = opened_sequence a ts ∷ outer} {opened = c ∷ opened} h fits deep =
      let last = last_item ts t in
      let old = h.held.0.1 in
      put_in h fits deep (opened_sequence a (ts ++ t ∷ [])) (h.held.0.0, record { size = omega arith; levels = omega arith })
  put {u = u} {outer = opened_mapping a ps None ∷ outer} {opened = c ∷ opened} h fits deep =
      let old = h.held.0.1 in
      put_in h fits deep (opened_mapping a ps (Some t)) (h.held.0.0, record { size = omega arith; levels = omega arith })
  put {u = u} {outer = opened_mapping a ps (Some k) ∷ outer} {opened = c ∷ opened} {anchors = anchors} h fits deep =
      let last = inserted k t ps in
      let old = h.held.0.1 in
      either (λ s. OfStep s (record { size = size; levels = levels; opened = with_part x (c ∷ opened); anchors = anchors })) (has_key k ps) _ _ tt
      (put_in h fits deep (opened_mapping a (insert k t ps) None) (h.held.0.0, record { size = omega arith; levels = omega arith }))
  put h fits deep = absurd h.held

-- the same, and the node is kept where it has an anchor
put_kept : (a : ℕ) (t : Tree) (x : Extent) (size levels : ℕ) → IsNoMore (tree_extent t) x
    → {u : Unfinished} {outer : List reading.Opened} {opened : List Opened} {anchors : List (ℕ × Extent)} {s : ℕ}
    → Holds u outer opened anchors s levels → s + x.size ≤ size → length opened + x.levels ≤ levels
    → OfStep (reading.with_node a t u outer) (with_kept a x (record { size = size; levels = levels; opened = with_part x opened; anchors = anchors }))
put_kept zero t x size levels no_more h fits deep = put t x no_more size levels h fits deep
put_kept (suc n) t x size levels no_more {u = u} {outer = outer} {opened = opened} {anchors = anchors} {s = s} h fits deep =
    let kept = one_kept (suc n) t x u.anchors anchors no_more h.kept in
    let new : Holds (record u { anchors = (suc n, t) ∷ u.anchors }) outer opened ((suc n, x) ∷ anchors) s levels =
    record { held = h.held; kept = kept; size_is = h.size_is; deep = h.deep; root_deep = h.root_deep; above = h.above } in
    put t x no_more (size + x.size) levels new (omega arith) deep

-- ---- events

module _ (u : Unfinished) (m : Made) where
  -- a tag, which no tree holds
  tagged : (tag : Option Tag) → IsMade u m → IsMade u (with_tag tag m)
  tagged None h = h
  tagged (Some t) h = more h (m.size + tag_size t) m.levels (omega arith) (omega arith)

  -- a collection begins
  start : (c : reading.Opened) (a : ℕ) (outer : List reading.Opened) (root : Option Tree) → IsHeld c (record { anchor = a; extent = single_node })
      → Holds u outer m.opened m.anchors m.size m.levels → OfStep (reading.with_start c u outer root) (with_start a m)
  start c a [] (Some root) is h = tt
  start c a outer root is h =
      let b = more h (m.size + 1) (max m.levels (length m.opened + 1)) (omega arith) (omega arith) in
      record { held = (is, b.held); kept = b.kept; size_is = omega arith; deep = b.deep; root_deep = b.root_deep; above = (omega arith, b.above) }

  -- the innermost collection is a node of the next one
  ended : (a : ℕ) (t : Tree) (o : reading.Opened) (outer : List reading.Opened) (c : Opened) (opened : List Opened) → a ≡ c.anchor → IsNoMore (tree_extent t) c.extent
      → Holds u (o ∷ outer) (c ∷ opened) m.anchors m.size m.levels → OfStep (reading.with_node a t u outer) (with_end (c ∷ opened) m)
  ended a t o outer c opened is no_more h =
      let s = documents_size u.documents + (root_extent u.root).size + opened_size opened in
      let here = h.above.0 in
      let around : Holds u outer opened m.anchors s m.levels =
      record { held = h.held.1; kept = h.kept; size_is = omega arith; deep = h.deep; root_deep = h.root_deep; above = h.above.1 } in
      subst (λ b. OfStep (reading.with_node b t u outer) (with_end (c ∷ opened) m)) (sym is)
      (put_kept c.anchor t c.extent m.size m.levels no_more around (omega arith) (omega arith))

  sequence_end : (outer : List reading.Opened) (opened : List Opened) → Holds u outer opened m.anchors m.size m.levels → OfStep (with_sequence_end u outer) (with_end opened m)
  sequence_end (opened_sequence a ts ∷ outer) (c ∷ opened) h = ended a (array (items_of ts)) (opened_sequence a ts) outer c opened h.held.0.0 h.held.0.1 h
  sequence_end (opened_sequence a ts ∷ outer) [] h = absurd h.held
  sequence_end outer opened h = tt

  mapping_end : (outer : List reading.Opened) (opened : List Opened) → Holds u outer opened m.anchors m.size m.levels → OfStep (with_mapping_end u outer) (with_end opened m)
  mapping_end (opened_mapping a ps None ∷ outer) (c ∷ opened) h = ended a (hash (pairs_of ps)) (opened_mapping a ps None) outer c opened h.held.0.0 h.held.0.1 h
  mapping_end (opened_mapping a ps None ∷ outer) [] h = absurd h.held
  mapping_end outer opened h = tt

  document_end : (outer : List reading.Opened) → IsMade u m → OfStep (with_document_end u outer) m
  document_end (o ∷ outer) h = tt
  document_end [] h =
      let t = unwrap_or u.root bad_value in
      let root = of_root u.root in
      let last = last_document u.documents t in
      record { held = h.held; kept = h.kept; size_is = omega arith; deep = no_deeper_last u.documents t m.levels h.deep (omega arith); root_deep = omega arith; above = h.above }

  -- a node where it stands
  placed : (a : ℕ) (t : Tree) (x : Extent) → IsNoMore (tree_extent t) x → IsMade u m → OfStep (reading.with_node a t u u.opened) (with_kept a x (with_node x m))
  placed a t x no_more h =
      let levels = max m.levels (length m.opened + x.levels) in
      put_kept a t x (m.size + x.size) levels no_more (more h m.size levels (omega arith) (omega arith)) (omega arith) (omega arith)

one_event : (u : Unfinished) (m : Made) (e : Ev) → IsMade u m → OfStep (with_event u e) (made_by m e)
one_event u m Ev.document_end h = document_end u m u.opened h
one_event u m (Ev.alias n) h = placed u m 0 (aliased n u.anchors) (extent_at n m.anchors) (h.kept n) h
one_event u m (Ev.scalar text style a tag) h = placed u (with_tag tag m) a (scalar_tree text style tag) (scalar_extent text) (of_scalar text style tag) (tagged u m tag h)
one_event u m (Ev.sequence_start a tag) h = start u (with_tag tag m) (opened_sequence a []) a u.opened u.root (refl, same single_node) (tagged u m tag h)
one_event u m Ev.sequence_end h = sequence_end u m u.opened m.opened h
one_event u m (Ev.mapping_start a tag) h = start u (with_tag tag m) (opened_mapping a [] None) a u.opened u.root (refl, same single_node) (tagged u m tag h)
one_event u m Ev.mapping_end h = mapping_end u m u.opened m.opened h
one_event u m _ h = h

-- ---- loaders

abbrev OfLoader : Loader → Made → Type 0
OfLoader (at_work u) m = IsMade u m
OfLoader _ m = Unit {0}

of_step : (s : Step) (documents : List Tree) (p : Position) (m : Made) → OfStep s m → OfLoader (loader_after s documents p) m
of_step (reads u) documents p m h = h
of_step s documents p m h = tt

all_events : (es : List (Ev × Position)) (l : Loader) (m : Made) → OfLoader l m → OfLoader (with_events l es) (made_from m es)
all_events [] l m h = h
all_events (e ∷ es) (at_work u) m h =
    all_events es (with_event_at (at_work u) e.0 e.1) (made_by m e.0) (of_step (with_event u e.0) u.documents e.1 (made_by m e.0) (one_event u m e.0 h))
all_events (e ∷ es) l m h = all_events es (with_event_at l e.0 e.1) (made_by m e.0) tt

of_documents : (l : Loader) (m : Made) (documents : List Tree) → OfLoader l m → HasDocuments l documents → (documents_size documents ≤ m.size) × AreNoDeeper m.levels documents
of_documents (at_work u) m documents h is = subst (λ ts. (documents_size ts ≤ m.size) × AreNoDeeper m.levels ts) is (omega arith, h.deep)
of_documents l m documents h is = absurd is

-- The documents of a loader that took these events are no larger and no deeper than what was made of the events.
pub documents_are_made : (es : List (Ev × Position)) (documents : List Tree) → HasDocuments (with_events new_loader es) documents
    → (documents_size documents ≤ (made es).size) × AreNoDeeper (made es).levels documents
documents_are_made es documents h =
    let nothing : IsMade reading.nothing_read nothing_made =
    record { held = tt; kept = λ n. same single_node; size_is = omega arith; deep = tt; root_deep = omega arith; above = tt } in
    of_documents (with_events new_loader es) (made es) documents (all_events es new_loader nothing_made nothing) h
