-- After the same events, trees and their marks are related, where leaves, aliases and collections of related parts are.
-- So marks have the parts of the trees.
use Rattle.defs_event.proofs.Common.{[], alias, aliased, Anchors, AreDistinct, arith, array, at_work, bad_value, Bool, by_name, bytes_eq, codes, core_prefix, documents_of, Ev, false, false_words, finished, fits_i64, has_key, hash, if◌then◌else◌, integer, is_among, is_decimal, is_real_text, IsTrue, items_of, List, Loader, MayStandFor, new_loader, None, noted, OfSome, Opened, opened_mapping, opened_sequence, Option, option_map, pairs_of, Position, reads, refl, refused, scalar_tree, signed_decimal, signed_number-fits, Some, Step, Style, subst, Tag, Tree, true, true_words, typing, typing_plain, Unfinished, unwrap_or, with_document_end, with_event, with_event_at, with_events, with_mapping_end, with_sequence_end, with_start, with_tree, without, ℕ, ℤ, ◌++◌, ◌||◌, ◌∷◌, ◌≡◌}
use Rattle.defs_tree.proofs.PairsLaws.{AreDistinct_insert}
use Rattle.defs_event.specs.Unfinished.{with_node}
use Rattle.defs_event.specs.Fits.{Fits, ItemsFit, PairsFit, AllFit}
use Rattle.defs_event.specs.MarkLaws.{MarksFitTheirTrees}
use Rattle.defs_event.specs.Marking.{OpenMarks, MarkedAnchors, Marking, nothing_marked, alias_of, aliased_marks, finished_marks, with_part, with_anchored, with_close, with_event_marked, with_events_marked}
use Rattle.defs_event.specs.Marks.{Marks, marks, parts_of, leaf}

-- ---- scalars

-- what a scalar is read as: its integers have 64 bits
abbrev pub IsLeaf : Tree → Type 0
IsLeaf (integer z) = IsTrue (fits_i64 z)
IsLeaf (array ts) = ⊥
IsLeaf (hash ps) = ⊥
IsLeaf (alias n) = ⊥
IsLeaf _ = Unit {0}

either : {A : Type 0} (P : A → Type 0) (b : Bool) {t u : A} → P t → P u → P (if b then t else u)
either P true h r = h
either P false h r = r

plain_leaf : (text : List ℕ) (t : Tree) → MayStandFor text t → IsLeaf t
plain_leaf text t h = grind arith

number_leaf : (o : Option ℤ) → OfSome (λ z. IsTrue (fits_i64 z)) o → IsLeaf (unwrap_or (option_map integer o) bad_value)
number_leaf o h = grind arith

named_leaf : (name text : List ℕ) → IsLeaf (by_name name text)
named_leaf name text =
    either IsLeaf (bytes_eq name (codes "bool"))
    (either IsLeaf (is_among true_words text) tt (either IsLeaf (is_among false_words text) tt tt))
    (either IsLeaf (bytes_eq name (codes "int")) (number_leaf (signed_decimal text) (signed_number-fits 10 text))
    (either IsLeaf (bytes_eq name (codes "float")) (either IsLeaf (is_real_text text || is_decimal text) tt tt)
    (either IsLeaf (bytes_eq name (codes "null")) (either IsLeaf (is_among (codes "~" ∷ codes "null" ∷ []) text) tt tt) tt)))

scalar_leaf : (text : List ℕ) (style : Style) (tag : Option Tag) → IsLeaf (scalar_tree text style tag)
scalar_leaf text Style.plain None = plain_leaf text (typing text) (typing_plain text)
scalar_leaf text Style.plain (Some t) = either IsLeaf (bytes_eq t.handle core_prefix) (named_leaf t.suffix text) tt
scalar_leaf text _ tag = tt

-- a key that is not there is not removed
new_key : (k : Tree) (ps : List (Tree × Tree)) → has_key k ps ≡ false → without k ps ≡ ps
new_key k [] h = refl
new_key k (p ∷ ps) h = grind (arith, new_key k ps)

-- ---- related trees and marks

-- each tree to its marks
abbrev pub Each : (Tree → Marks → Type 0) → List Tree → List Marks → Type 0
Each R [] [] = Unit {0}
Each R (t ∷ ts) (m ∷ ms) = R t m × Each R ts ms
Each R _ _ = ⊥

-- the pairs so far, and the key that waits
abbrev pub EachPair : (Tree → Marks → Type 0) → List (Tree × Tree) → Option Tree → List Marks → Type 0
EachPair R [] None [] = Unit {0}
EachPair R [] (Some k) (m ∷ []) = R k m
EachPair R (p ∷ ps) w (m ∷ n ∷ ms) = R p.0 m × R p.1 n × EachPair R ps w ms
EachPair R _ _ _ = ⊥

-- Leaves, aliases, and collections of related parts are related to their marks.
pub record IsKept (R : Tree → Marks → Type 0) : Type 0 where
  pub of_leaf : (t : Tree) (p : Position) → IsLeaf t → R t (leaf p)
  pub of_alias : (t : Tree) (p : Position) (m : Marks) → R t m → R t (alias_of p m)
  pub of_array : (ts : List Tree) (p : Position) (ms : List Marks) → Each R ts ms → R (array (items_of ts)) (marks p p (parts_of ms))
  pub of_hash : (ps : List (Tree × Tree)) (p : Position) (ms : List Marks) → AreDistinct ps → EachPair R ps None ms
      → R (hash (pairs_of ps)) (marks p p (parts_of ms))

module _ (R : Tree → Marks → Type 0) where
  -- ---- one more part

  one_more : (ts : List Tree) (ms : List Marks) (t : Tree) (m : Marks) → Each R ts ms → R t m → Each R (ts ++ t ∷ []) (ms ++ m ∷ [])
  one_more [] [] t m h f = (f, tt)
  one_more (s ∷ ts) (n ∷ ms) t m h f = (h.0, one_more ts ms t m h.1 f)
  one_more ts ms t m h f = absurd h

  with_key : (ps : List (Tree × Tree)) (ms : List Marks) (k : Tree) (m : Marks) → EachPair R ps None ms → R k m
      → EachPair R ps (Some k) (ms ++ m ∷ [])
  with_key [] [] k m h f = f
  with_key (p ∷ ps) (n ∷ o ∷ ms) k m h f = (h.0, h.1, with_key ps ms k m h.2 f)
  with_key ps ms k m h f = absurd h

  with_value : (ps : List (Tree × Tree)) (ms : List Marks) (k v : Tree) (m : Marks) → EachPair R ps (Some k) ms → R v m
      → EachPair R (ps ++ (k, v) ∷ []) None (ms ++ m ∷ [])
  with_value [] (n ∷ []) k v m h f = (h, f, tt)
  with_value (p ∷ ps) (n ∷ o ∷ ms) k v m h f = (h.0, h.1, with_value ps ms k v m h.2 f)
  with_value ps ms k v m h f = absurd h

  -- ---- unfinished readings

  abbrev OpenFit : Opened → OpenMarks → Type 0
  OpenFit (opened_sequence a ts) o = (a ≡ o.anchor) × Each R ts o.parts
  OpenFit (opened_mapping a ps w) o = (a ≡ o.anchor) × AreDistinct ps × EachPair R ps w o.parts

  abbrev AllOpenFit : List Opened → List OpenMarks → Type 0
  AllOpenFit [] [] = Unit {0}
  AllOpenFit (c ∷ cs) (o ∷ os) = OpenFit c o × AllOpenFit cs os
  AllOpenFit _ _ = ⊥

  abbrev RootFits : Option Tree → Option Marks → Type 0
  RootFits None None = Unit {0}
  RootFits (Some t) (Some m) = R t m
  RootFits _ _ = ⊥

  -- an alias of any number
  abbrev AliasesFit : Anchors → MarkedAnchors → Type 0
  AliasesFit anchors marked = (n : ℕ) (p : Position) → R (aliased n anchors) (aliased_marks n p marked)

  -- the documents, what is open, the root, and the anchors
  abbrev InStep : Unfinished → Marking → Type 0
  InStep u x = Each R u.documents x.documents × AllOpenFit u.opened x.opened × RootFits u.root x.root × AliasesFit u.anchors x.anchors

  abbrev StepFits : Step → Marking → Type 0
  StepFits (reads u) x = InStep u x
  StepFits _ x = Unit {0}

  module _ (is : IsKept R) where
    finished_fit : (a : ℕ) (t : Tree) (m : Marks) (anchors : Anchors) (marked : MarkedAnchors)
        → R t m → AliasesFit anchors marked → AliasesFit (finished a t anchors) (finished_marks a m marked)
    finished_fit a t m anchors marked f h n p = grind (arith, is.of_alias t p m f, h n p)

    -- a complete tree, where these collections are open
    tree_fits : (u : Unfinished) (x : Marking) (t : Tree) (m : Marks) (cs : List Opened) (os : List OpenMarks)
        → InStep (record u { opened = cs }) (record x { opened = os }) → R t m → StepFits (with_tree t u cs) (with_part m x os)
    tree_fits u x t m [] [] h f = grind arith
    tree_fits u x t m (opened_sequence a ts ∷ cs) (o ∷ os) h f = grind (arith, one_more)
    tree_fits u x t m (opened_mapping a ps None ∷ cs) (o ∷ os) h f = grind (arith, with_key)
    tree_fits u x t m (opened_mapping a ps (Some k) ∷ cs) (o ∷ os) h f =
        grind (arith, new_key, AreDistinct_insert, with_value ps o.parts k t m h.1.0.2 f)
    tree_fits u x t m cs os h f = absurd h.1

    start_fits : (u : Unfinished) (x : Marking) (c : Opened) (o : OpenMarks) (cs : List Opened) (root : Option Tree)
        → InStep (record u { opened = cs }) x → OpenFit c o → StepFits (with_start c u cs root) (record x { opened = o ∷ x.opened })
    start_fits u x c o cs root h f = grind arith

    -- a complete node with an anchor
    node_fits : (u : Unfinished) (x : Marking) (a b : ℕ) (t : Tree) (m : Marks) (cs : List Opened) (os : List OpenMarks)
        → InStep (record u { opened = cs }) (record x { opened = os }) → R t m → a ≡ b
        → StepFits (with_node a t u cs) (with_anchored b m x os)
    node_fits u x a b t m cs os h f e =
        rw (← e)
        (tree_fits (record u { anchors = finished a t u.anchors }) (record x { anchors = finished_marks a m x.anchors }) t m cs os
        (grind (arith, finished_fit a t m u.anchors x.anchors f h.3)) f)

    sequence_end_fits : (u : Unfinished) (x : Marking) (cs : List Opened) (os : List OpenMarks)
        → InStep (record u { opened = cs }) (record x { opened = os }) → StepFits (with_sequence_end u cs) (with_close x os)
    sequence_end_fits u x (opened_sequence a ts ∷ cs) [] h = absurd h.1
    sequence_end_fits u x (opened_sequence a ts ∷ cs) (o ∷ os) h =
        node_fits u x a o.anchor (array (items_of ts)) _ cs os (h.0, h.1.1, h.2, h.3) (is.of_array ts o.start o.parts h.1.0.1) h.1.0.0
    sequence_end_fits u x cs os h = tt

    mapping_end_fits : (u : Unfinished) (x : Marking) (cs : List Opened) (os : List OpenMarks)
        → InStep (record u { opened = cs }) (record x { opened = os }) → StepFits (with_mapping_end u cs) (with_close x os)
    mapping_end_fits u x (opened_mapping a ps None ∷ cs) [] h = absurd h.1
    mapping_end_fits u x (opened_mapping a ps None ∷ cs) (o ∷ os) h =
        node_fits u x a o.anchor (hash (pairs_of ps)) _ cs os (h.0, h.1.1, h.2, h.3) (is.of_hash ps o.start o.parts h.1.0.1 h.1.0.2) h.1.0.0
    mapping_end_fits u x cs os h = tt

    document_end_fits : (u : Unfinished) (x : Marking) (p : Position) (cs : List Opened) → InStep u x
        → StepFits (with_document_end u cs) (with_event_marked x Ev.document_end p)
    document_end_fits u x p [] h =
        (one_more u.documents x.documents _ _ h.0 (grind (arith, is.of_leaf bad_value p tt)), h.1, tt, h.3)
    document_end_fits u x p (c ∷ cs) h = tt

    event_fits : (u : Unfinished) (x : Marking) (e : Ev) (p : Position) → InStep u x → StepFits (with_event u e) (with_event_marked x e p)
    event_fits u x Ev.document_end p h = document_end_fits u x p u.opened h
    event_fits u x (Ev.alias n) p h = tree_fits u x (aliased n u.anchors) (aliased_marks n p x.anchors) u.opened x.opened h (h.3 n p)
    event_fits u x (Ev.scalar text style a tag) p h =
        node_fits u x a a (scalar_tree text style tag) (leaf p) u.opened x.opened h
        (is.of_leaf (scalar_tree text style tag) p (scalar_leaf text style tag)) refl
    event_fits u x (Ev.sequence_start a tag) p h =
        start_fits u x (opened_sequence a []) (record { anchor = a; start = p; parts = [] }) u.opened u.root h (refl, tt)
    event_fits u x Ev.sequence_end p h = sequence_end_fits u x u.opened x.opened h
    event_fits u x (Ev.mapping_start a tag) p h =
        start_fits u x (opened_mapping a [] None) (record { anchor = a; start = p; parts = [] }) u.opened u.root h (refl, tt, tt)
    event_fits u x Ev.mapping_end p h = mapping_end_fits u x u.opened x.opened h
    event_fits u x _ p h = h

    -- ---- loaders

    -- where no more events are read, the documents keep the marks that they had
    abbrev LoaderFits : Loader → Marking → Type 0
    LoaderFits (at_work u) x = InStep u x
    LoaderFits (noted docs key at) x = (ms : List Marks) × Each R docs ms
    LoaderFits (refused docs at) x = (ms : List Marks) × Each R docs ms

    events_fit : (l : Loader) (x : Marking) (es : List (Ev × Position))
        → LoaderFits l x → LoaderFits (with_events l es) (with_events_marked x es)
    events_fit l x [] h = h
    events_fit (at_work u) x (e ∷ es) h =
        events_fit (with_event_at (at_work u) e.0 e.1) (with_event_marked x e.0 e.1) es
        (grind (arith, event_fits u x e.0 e.1 h))
    events_fit l x (e ∷ es) h = events_fit l (with_event_marked x e.0 e.1) es h

    loaded_fit : (es : List (Ev × Position)) → LoaderFits (with_events new_loader es) (with_events_marked nothing_marked es)
    loaded_fit es = events_fit new_loader nothing_marked es (tt, tt, tt, λ n p. is.of_leaf bad_value p tt)

    documents_fit : (l : Loader) (x : Marking) → LoaderFits l x → (ms : List Marks) × Each R (documents_of l) ms
    documents_fit (at_work u) x h = (x.documents, h.0)
    documents_fit (noted docs key at) x h = h
    documents_fit (refused docs at) x h = h

    -- every loaded document is related to marks
    pub documents_kept : (es : List (Ev × Position)) → (ms : List Marks) × Each R (documents_of (with_events new_loader es)) ms
    documents_kept es = documents_fit (with_events new_loader es) (with_events_marked nothing_marked es) (loaded_fit es)

-- ---- marks with the parts of their trees

leaf_fits : (t : Tree) (p : Position) → IsLeaf t → Fits t (leaf p)
leaf_fits t p h = grind arith

alias_fits : (t : Tree) (p : Position) (m : Marks) → Fits t m → Fits t (alias_of p m)
alias_fits t p m h = grind arith

items_fit : (ts : List Tree) (p : Position) (ms : List Marks) → Each Fits ts ms → ItemsFit (items_of ts) (parts_of ms)
items_fit [] p [] h = tt
items_fit (t ∷ ts) p (m ∷ ms) h = (h.0, items_fit ts p ms h.1)
items_fit ts p ms h = absurd h

pairs_fit : (ps : List (Tree × Tree)) (p : Position) (ms : List Marks) → AreDistinct ps → EachPair Fits ps None ms
    → PairsFit (pairs_of ps) (parts_of ms)
pairs_fit [] p [] d h = tt
pairs_fit (q ∷ ps) p (m ∷ n ∷ ms) d h = (h.0, h.1, pairs_fit ps p ms d.1 h.2)
pairs_fit ps p ms d h = absurd h

all_fit : (ts : List Tree) (ms : List Marks) → Each Fits ts ms → AllFit ts ms
all_fit [] [] h = tt
all_fit (t ∷ ts) (m ∷ ms) h = (h.0, all_fit ts ms h.1)
all_fit ts ms h = absurd h

pub marks_fit : MarksFitTheirTrees
marks_fit es u e =
    let is : IsKept Fits = record { of_leaf = leaf_fits; of_alias = alias_fits; of_array = items_fit; of_hash = pairs_fit } in
    let h = subst (λ l. LoaderFits Fits is l (with_events_marked nothing_marked es)) e (loaded_fit Fits is es) in
    all_fit u.documents _ h.0
