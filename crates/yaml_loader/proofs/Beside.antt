-- Two loaders beside each other, over the same events: they differ in the documents before, and in anchors that no alias tells apart.
use Rattle.yaml_loader.proofs.Common.{[], aliased, Anchors, ap, append_assoc, arith, array, at_work, bad_value, Bool, documents_of, Ev, false, finished, has_key, HasDocuments, hash, HasNoEnd, HasNoted, HasRead, if◌then◌else◌, insert, is_end, items_of, List, Loader, loader_after, nat_eq, nat_tests, None, noted, Ok, Opened, opened_mapping, opened_sequence, Option, out_of_nesting, pairs_of, Position, reads, refl, refused_at, repeats, scalar_tree, Some, Step, subst, suc, sym, Tree, true, Unfinished, unwrap_or, with_document_end, with_event, with_event_at, with_events, with_mapping_end, with_node, with_root, with_sequence_end, with_start, with_tree, zero, ℕ, ◌++◌, ◌∙◌, ◌∷◌, ◌≡◌}

-- the number of the anchor of the node that begins with the event, or 0
abbrev pub anchor_of : Ev → ℕ
anchor_of (Ev.scalar x s a t) = a
anchor_of (Ev.sequence_start a t) = a
anchor_of (Ev.mapping_start a t) = a
anchor_of _ = 0

abbrev pub state : List Tree → List Opened → Option Tree → Anchors → Unfinished
state docs opened root anchors = record { documents = docs; opened = opened; root = root; anchors = anchors }

-- ---- what is known of the anchors: R of each number, and of its two trees

module _ (R : ℕ → Tree → Tree → Type 0) where
  abbrev pub AreRelated : Anchors → Anchors → Type 0
  AreRelated a b = (n : ℕ) → R n (aliased n a) (aliased n b)

  -- Both may finish a node with this anchor.
  abbrev pub MayFinish : ℕ → Type 0
  MayFinish a = (t : Tree) → R a t t

  abbrev pub AllMayFinish : List Opened → Type 0
  AllMayFinish [] = Unit {0}
  AllMayFinish (opened_sequence a ts ∷ os) = MayFinish a × AllMayFinish os
  AllMayFinish (opened_mapping a ps k ∷ os) = MayFinish a × AllMayFinish os

  -- An alias means the same, and a node may be finished.
  abbrev pub Suits : Ev → Type 0
  Suits (Ev.alias n) = (s t : Tree) → R n s t → s ≡ t
  Suits e = MayFinish (anchor_of e)

  abbrev pub AllSuit : List (Ev × Position) → Type 0
  AllSuit [] = Unit {0}
  AllSuit (e ∷ es) = Suits e.0 × AllSuit es

  finished_related : (k : ℕ) (t : Tree) (a b : Anchors) → MayFinish k → AreRelated a b → AreRelated (finished k t a) (finished k t b)
  finished_related zero t a b f h n = h n
  finished_related (suc k) t a b f h n = by (nat_eq n (suc k)) refl
    where
      by : (x : Bool) → nat_eq n (suc k) ≡ x → R n (if x then t else aliased n a) (if x then t else aliased n b)
      by true e = let same : suc k ≡ n = grind (arith, nat_tests, e) in subst (λ m. R m t t) same (f t)
      by false e = h n

-- All is the same but for the documents before, and the anchors.
pub record AreBeside (R : ℕ → Tree → Tree → Type 0) (before : List Tree) (u v : Unfinished) : Type 0 where
  pub is : u ≡ state (before ++ v.documents) v.opened v.root u.anchors
  pub anchors : AreRelated R u.anchors v.anchors
  pub opened : AllMayFinish R v.opened

-- One step of both. But for an end, the documents stay.
pub data StepsBeside (R : ℕ → Tree → Tree → Type 0) (before docs : List Tree) (end : Bool) : Step → Step → Type 0 where
  reading : {u v : Unfinished} → AreBeside R before u v → (end ≡ false → v.documents ≡ docs) → StepsBeside R before docs end (reads u) (reads v)
  repeating : (key : Tree) → StepsBeside R before docs end (repeats key) (repeats key)
  nesting : StepsBeside R before docs end out_of_nesting out_of_nesting

pub data StandBeside (R : ℕ → Tree → Tree → Type 0) (before : List Tree) : Loader → Loader → Type 0 where
  working : {u v : Unfinished} → AreBeside R before u v → StandBeside R before (at_work u) (at_work v)
  noting : {ds es : List Tree} {key : Tree} {p : Position} → ds ≡ before ++ es → StandBeside R before (noted ds key p) (noted es key p)
  refusing : {ds es : List Tree} {p : Position} → ds ≡ before ++ es → StandBeside R before (Loader.refused ds p) (Loader.refused es p)

-- ---- one step

module _ (R : ℕ → Tree → Tree → Type 0) (before docs : List Tree) (end : Bool) (root : Option Tree) where
  -- the one with these anchors, the other with those
  abbrev pub one : List Opened → Anchors → Unfinished
  one os a = state (before ++ docs) os root a

  abbrev pub two : List Opened → Anchors → Unfinished
  two os b = state docs os root b

  abbrev pub Beside : Step → Step → Type 0
  Beside s r = StepsBeside R before docs end s r

  both : (os : List Opened) (r : Option Tree) (a b : Anchors) → AreRelated R a b → AllMayFinish R os
      → Beside (reads (state (before ++ docs) os r a)) (reads (state docs os r b))
  both os r a b h o = reading (record { is = refl; anchors = h; opened = o }) (λ k. refl)

  -- Which collections stood as open doesn't matter.
  pub tree_beside : (t : Tree) (all others os : List Opened) (a b : Anchors) → AreRelated R a b → AllMayFinish R os
      → Beside (with_tree t (one all a) os) (with_tree t (two others b) os)
  tree_beside t all others [] a b h o = by root
    where
      by : (r : Option Tree) → Beside (with_root t (one all a) r) (with_root t (two others b) r)
      by None = both [] (Some t) a b h o
      by (Some x) = nesting
  tree_beside t all others (opened_sequence n ts ∷ os) a b h o = both (opened_sequence n (ts ++ t ∷ []) ∷ os) root a b h o
  tree_beside t all others (opened_mapping n ps None ∷ os) a b h o = both (opened_mapping n ps (Some t) ∷ os) root a b h o
  tree_beside t all others (opened_mapping n ps (Some k) ∷ os) a b h o = by (has_key k ps)
    where
      new : List Opened
      new = opened_mapping n (insert k t ps) None ∷ os

      by : (x : Bool) → Beside (if x then repeats k else reads (one new a)) (if x then repeats k else reads (two new b))
      by true = repeating k
      by false = both new root a b h o

  pub node_beside : (k : ℕ) (t : Tree) (all others os : List Opened) (a b : Anchors) → AreRelated R a b → MayFinish R k → AllMayFinish R os
      → Beside (with_node k t (one all a) os) (with_node k t (two others b) os)
  node_beside k t all others os a b h f o = tree_beside t all others os (finished k t a) (finished k t b) (finished_related R k t a b f h) o

  start_beside : (c : Opened) (all os : List Opened) (r : Option Tree) (a b : Anchors) → AreRelated R a b → AllMayFinish R (c ∷ os)
      → Beside (with_start c (one all a) os r) (with_start c (two all b) os r)
  start_beside c all [] (Some x) a b h o = nesting
  start_beside c all os r a b h o = both (c ∷ os) root a b h o

  sequence_end_beside : (all os : List Opened) (a b : Anchors) → AreRelated R a b → AllMayFinish R os
      → Beside (with_sequence_end (one all a) os) (with_sequence_end (two all b) os)
  sequence_end_beside all (opened_sequence k ts ∷ os) a b h o = node_beside k (array (items_of ts)) all all os a b h o.0 o.1
  sequence_end_beside all os a b h o = nesting

  mapping_end_beside : (all os : List Opened) (a b : Anchors) → AreRelated R a b → AllMayFinish R os
      → Beside (with_mapping_end (one all a) os) (with_mapping_end (two all b) os)
  mapping_end_beside all (opened_mapping k ps None ∷ os) a b h o = node_beside k (hash (pairs_of ps)) all all os a b h o.0 o.1
  mapping_end_beside all os a b h o = nesting

  document_end_beside : (all os : List Opened) (a b : Anchors) → (end ≡ false → true ≡ false) → AreRelated R a b → AllMayFinish R all
      → Beside (with_document_end (one all a) os) (with_document_end (two all b) os)
  document_end_beside all [] a b k h o =
      let same = append_assoc before docs (unwrap_or root bad_value ∷ []) in
      reading (record { is = ap (λ ds. state ds all None a) same; anchors = h; opened = o }) (λ f. let no = k f in cc)
  document_end_beside all (c ∷ os) a b k h o = nesting

  event_beside : (e : Ev) (os : List Opened) (a b : Anchors) → (end ≡ false → is_end e ≡ false) → Suits R e → AreRelated R a b → AllMayFinish R os
      → Beside (with_event (one os a) e) (with_event (two os b) e)
  event_beside Ev.document_end os a b k s h o = document_end_beside os os a b k h o
  event_beside (Ev.alias n) os a b k s h o =
      subst (λ t. Beside (with_tree (aliased n a) (one os a) os) (with_tree t (two os b) os)) (s _ _ (h n)) (tree_beside (aliased n a) os os os a b h o)
  event_beside (Ev.scalar text style a t) os x y k s h o = node_beside a (scalar_tree text style t) os os os x y h s o
  event_beside (Ev.sequence_start a t) os x y k s h o = start_beside (opened_sequence a []) os os root x y h (s, o)
  event_beside Ev.sequence_end os a b k s h o = sequence_end_beside os os a b h o
  event_beside (Ev.mapping_start a t) os x y k s h o = start_beside (opened_mapping a [] None) os os root x y h (s, o)
  event_beside Ev.mapping_end os a b k s h o = mapping_end_beside os os a b h o
  event_beside _ os a b k s h o = both os root a b h o

-- ---- loaders

module _ {R : ℕ → Tree → Tree → Type 0} {before : List Tree} where
  after_beside : {end : Bool} {s r : Step} (ds es : List Tree) (p : Position) → ds ≡ before ++ es → StepsBeside R before es end s r
      → StandBeside R before (loader_after s ds p) (loader_after r es p)
  after_beside ds es p e (reading h k) = working h
  after_beside ds es p e (repeating key) = noting e
  after_beside ds es p e nesting = refusing e

  pub event_at_beside : {l m : Loader} (e : Ev) (p : Position) → Suits R e → StandBeside R before l m → StandBeside R before (with_event_at l e p) (with_event_at m e p)
  event_at_beside e p s (working {u} {v} h) =
      after_beside u.documents v.documents p (ap (λ x. x.documents) h.is)
      (subst (λ x. StepsBeside R before v.documents true (with_event x e) (with_event v e)) (sym h.is)
      (event_beside R before v.documents true v.root e v.opened u.anchors v.anchors (λ k. cc) s h.anchors h.opened))
  event_at_beside e p s h = h

  pub events_beside : (es : List (Ev × Position)) {l m : Loader} → AllSuit R es → StandBeside R before l m → StandBeside R before (with_events l es) (with_events m es)
  events_beside [] s h = h
  events_beside (e ∷ es) s h = events_beside es s.1 (event_at_beside e.0 e.1 s.0 h)

  -- ---- what the one shows, as the other does

  pub beside_documents : {x y : Loader} → StandBeside R before x y → documents_of x ≡ before ++ documents_of y
  beside_documents (working h) = ap (λ u. u.documents) h.is
  beside_documents (noting e) = e
  beside_documents (refusing e) = e

  pub beside_has : {x y : Loader} (ds : List Tree) → StandBeside R before x y → HasDocuments y ds → HasDocuments x (before ++ ds)
  beside_has ds (working h) r = ap (λ u. u.documents) h.is ∙ ap (λ es. before ++ es) r
  beside_has ds h r = absurd r

  pub beside_read : {x y : Loader} (ds : List Tree) → StandBeside R before x y → HasRead (Ok ds) y → HasRead (Ok (before ++ ds)) x
  beside_read ds (working h) r = (ap (λ u. u.documents) h.is ∙ ap (λ es. before ++ es) r.0, ap (λ u. u.opened) h.is ∙ r.1, ap (λ u. u.root) h.is ∙ r.2)
  beside_read ds h r = absurd r

  pub beside_noted : {x y : Loader} (key : Tree) (p : Position) → StandBeside R before x y → HasNoted y key p → HasNoted x key p
  beside_noted key p (noting e) r = r
  beside_noted key p h r = absurd r

  pub beside_refused : {x y : Loader} → StandBeside R before x y → refused_at x ≡ refused_at y
  beside_refused (working h) = refl
  beside_refused h = refl

-- ---- where each alias means the same

abbrev pub Same : ℕ → Tree → Tree → Type 0
Same n s t = s ≡ t

pub suits_same : (e : Ev) → Suits Same e
suits_same (Ev.alias n) = λ s t h. h
suits_same e = λ t. refl

pub may_finish_same : (os : List Opened) → AllMayFinish Same os
may_finish_same [] = tt
may_finish_same (opened_sequence a ts ∷ os) = (λ t. refl, may_finish_same os)
may_finish_same (opened_mapping a ps k ∷ os) = (λ t. refl, may_finish_same os)

-- a loader beside itself
event_keeps : (l : Loader) (e : Ev) (p : Position) → is_end e ≡ false → documents_of (with_event_at l e p) ≡ documents_of l
event_keeps (at_work u) e p h =
    by (event_beside Same [] u.documents false u.root e u.opened u.anchors u.anchors (λ k. h) (suits_same e) (λ n. refl) (may_finish_same u.opened))
  where
    by : {s r : Step} → StepsBeside Same [] u.documents false s r → documents_of (loader_after r u.documents p) ≡ u.documents
    by (reading x k) = k refl
    by x = refl
event_keeps l e p h = refl

-- Events without an end finish no document.
pub no_more_documents : (l : Loader) (es : List (Ev × Position)) → HasNoEnd es → documents_of (with_events l es) ≡ documents_of l
no_more_documents l [] h = refl
no_more_documents l (e ∷ es) h = no_more_documents (with_event_at l e.0 e.1) es h.1 ∙ event_keeps l e.0 e.1 h.0
