-- Nested events, handed in one by one, are read as the recursive reading has them.
use Rattle.defs_event.proofs.Common.{[], Anchors, ap, array, at_work, Bool, documents_or_key, Err, Ev, events_of, finished, has_key, hash, HasRead, if◌then◌else◌, insert, items_of, List, Loader, Nest, nest, nest_events, nest_pair, nest_pairs_events, nested_alias, nested_document_events, nested_documents_events, nested_mapping, nested_scalar, nested_sequence, nested_stream, NestedDocument, NestPairs, Nests, nests_events, new_loader, no_nest_pairs, no_nests, None, noted, nothing_read, Ok, Opened, opened_mapping, opened_sequence, Option, out_of_nesting, pairs_of, Position, Read, read_document, read_documents, read_items, read_node, read_pairs, reading, reads, refl, refused, repeats, Some, Step, then_read, Tree, Unfinished, with_event, with_event_at, with_events, with_node, with_start, with_tree, without_node, ℕ, ◌++◌, ◌∙◌, ◌∷◌, ◌≡◌, arith}

-- ---- all events, whatever their positions

abbrev run : Step → List Ev → Step
run (reads u) [] = reads u
run (reads u) (e ∷ es) = run (with_event u e) es
run s es = s

abbrev step_of : Loader → Step
step_of (at_work u) = reads u
step_of (noted docs key p) = repeats key
step_of (refused docs p) = out_of_nesting

as_run : (es : List (Ev × Position)) (l : Loader) → step_of (with_events l es) ≡ run (step_of l) (events_of es)
as_run [] l = grind arith
as_run (e ∷ es) l = as_run es (with_event_at l e.0 e.1) ∙ grind arith

abbrev state : List Tree → List Opened → Option Tree → Anchors → Unfinished
state docs opened root anchors = record { documents = docs; opened = opened; root = root; anchors = anchors }

-- ---- where a run comes: to what the value read says, or to a key that comes twice

abbrev came : {A : Type 0} → Read A → (A → Anchors → Step) → Step
came (Ok x) goal = goal x.0 x.1
came (Err key) goal = repeats key

came_then : {A B : Type 0} (x : Read A) (next : A → Anchors → Read B) (goal : A → Anchors → Step) (goal' : B → Anchors → Step) (s : Step)
    → s ≡ came x goal → ((a : A) (more : Anchors) → goal a more ≡ came (next a more) goal') → s ≡ came (then_read x next) goal'
came_then x next goal goal' s h k = grind arith

-- a node may begin
abbrev Room : List Opened → Option Tree → Type 0
Room [] (Some t) = ⊥
Room outer root = Unit {0}

starts : (c : Opened) (u : Unfinished) (outer : List Opened) (root : Option Tree) → Room outer root
    → with_start c u outer root ≡ reads (record u { opened = c ∷ outer })
starts c u outer root h = grind arith

-- what was open does not count
ended : (t : Tree) (docs : List Tree) (opened outer : List Opened) (root : Option Tree) (anchors : Anchors) → with_tree t (state docs opened root anchors) outer ≡ with_tree t (state docs outer root anchors) outer
ended t docs opened outer root anchors = grind arith

abbrev after_node : List Tree → List Opened → Option Tree → List Ev → Tree → Anchors → Step
after_node docs outer root r t anchors = run (with_tree t (state docs outer root anchors) outer) r

abbrev after_items : List Tree → List Opened → Option Tree → ℕ → List Ev → List Tree → Anchors → Step
after_items docs outer root a r ts anchors = run (reads (state docs (opened_sequence a ts ∷ outer) root anchors)) r

abbrev after_pairs : List Tree → List Opened → Option Tree → ℕ → List Ev → List (Tree × Tree) → Anchors → Step
after_pairs docs outer root a r ps anchors = run (reads (state docs (opened_mapping a ps None ∷ outer) root anchors)) r

-- a pair is inserted, or its key was there
pair_ends : {A : Type 0} (b : Bool) (key : Tree) (z : Read A) (goal : A → Anchors → Step) (u : Unfinished) (r : List Ev)
    → run (reads u) r ≡ came z goal → run (if b then repeats key else reads u) r ≡ came (if b then Err key else z) goal
pair_ends b key z goal u r h = grind arith

mutual
  node_came : (n : Nest) (docs : List Tree) (outer : List Opened) (root : Option Tree) (anchors : Anchors) (r : List Ev) → Room outer root
      → run (reads (state docs outer root anchors)) (nest_events n r) ≡ came (read_node n anchors) (after_node docs outer root r)
  node_came (nested_alias n) docs outer root anchors r h = refl
  node_came (nested_scalar x s a t) docs outer root anchors r h = refl
  node_came (nested_sequence a t ns) docs outer root anchors r h =
      ap (λ s. run s (nests_events ns (Ev.sequence_end ∷ r))) (starts (opened_sequence a []) (state docs outer root anchors) outer root h)
      ∙ came_then _ _ (after_items docs outer root a (Ev.sequence_end ∷ r)) _ _ (items_came ns [] docs outer root a anchors (Ev.sequence_end ∷ r))
      (λ ts more. ap (λ s. run s r) (ended (array (items_of ts)) docs (opened_sequence a ts ∷ outer) outer root (finished a (array (items_of ts)) more)))
  node_came (nested_mapping a t ps) docs outer root anchors r h =
      ap (λ s. run s (nest_pairs_events ps (Ev.mapping_end ∷ r))) (starts (opened_mapping a [] None) (state docs outer root anchors) outer root h)
      ∙ came_then _ _ (after_pairs docs outer root a (Ev.mapping_end ∷ r)) _ _ (pairs_came ps [] docs outer root a anchors (Ev.mapping_end ∷ r))
      (λ held more. ap (λ s. run s r) (ended (hash (pairs_of held)) docs (opened_mapping a held None ∷ outer) outer root (finished a (hash (pairs_of held)) more)))

  items_came : (ns : Nests) (ts : List Tree) (docs : List Tree) (outer : List Opened) (root : Option Tree) (a : ℕ) (anchors : Anchors) (r : List Ev)
      → run (reads (state docs (opened_sequence a ts ∷ outer) root anchors)) (nests_events ns r) ≡ came (read_items ns ts anchors) (after_items docs outer root a r)
  items_came no_nests ts docs outer root a anchors r = refl
  items_came (nest n ns) ts docs outer root a anchors r =
      came_then _ _ (after_node docs (opened_sequence a ts ∷ outer) root (nests_events ns r)) _ _
      (node_came n docs (opened_sequence a ts ∷ outer) root anchors (nests_events ns r) tt)
      (λ t more. items_came ns (ts ++ t ∷ []) docs outer root a more r)

  pairs_came : (ps : NestPairs) (held : List (Tree × Tree)) (docs : List Tree) (outer : List Opened) (root : Option Tree) (a : ℕ) (anchors : Anchors) (r : List Ev)
      → run (reads (state docs (opened_mapping a held None ∷ outer) root anchors)) (nest_pairs_events ps r) ≡ came (read_pairs ps held anchors) (after_pairs docs outer root a r)
  pairs_came no_nest_pairs held docs outer root a anchors r = refl
  pairs_came (nest_pair k v ps) held docs outer root a anchors r =
      came_then _ _ (after_node docs (opened_mapping a held None ∷ outer) root (nest_events v (nest_pairs_events ps r))) _ _
      (node_came k docs (opened_mapping a held None ∷ outer) root anchors (nest_events v (nest_pairs_events ps r)) tt)
      (λ key more. came_then _ _ (after_node docs (opened_mapping a held (Some key) ∷ outer) root (nest_pairs_events ps r)) _ _
      (node_came v docs (opened_mapping a held (Some key) ∷ outer) root more (nest_pairs_events ps r) tt)
      (λ value most. pair_ends (has_key key held) key (read_pairs ps (insert key value held) most) (after_pairs docs outer root a r)
      (state docs (opened_mapping a (insert key value held) None ∷ outer) root most) (nest_pairs_events ps r)
      (pairs_came ps (insert key value held) docs outer root a most r)))

-- ---- documents

abbrev after_documents : List Ev → List Tree → Anchors → Step
after_documents r docs anchors = run (reads (state docs [] None anchors)) r

document_came : (d : NestedDocument) (docs : List Tree) (anchors : Anchors) (r : List Ev)
    → after_documents (nested_document_events d r) docs anchors ≡ came (read_document d anchors) (λ t more. after_documents r (docs ++ t ∷ []) more)
document_came without_node docs anchors r = refl
document_came (with_node n) docs anchors r = node_came n docs [] None anchors (Ev.document_end ∷ r) tt

documents_came : (ds : List NestedDocument) (docs : List Tree) (anchors : Anchors) (r : List Ev)
    → after_documents (nested_documents_events ds r) docs anchors ≡ came (read_documents ds docs anchors) (after_documents r)
documents_came [] docs anchors r = refl
documents_came (d ∷ ds) docs anchors r =
    came_then _ _ (λ t more. after_documents (nested_documents_events ds r) (docs ++ t ∷ []) more) _ _
    (document_came d docs anchors (nested_documents_events ds r))
    (λ t more. documents_came ds (docs ++ t ∷ []) more r)

has_read : (x : Read (List Tree)) (l : Loader) → step_of l ≡ came x (after_documents (Ev.stream_end ∷ [])) → HasRead (documents_or_key x) l
has_read x l h = grind arith

pub one_by_one : (ds : List NestedDocument) (es : List (Ev × Position)) → events_of es ≡ nested_stream ds → HasRead (reading ds) (with_events new_loader es)
one_by_one ds es h =
    has_read (read_documents ds [] []) (with_events new_loader es) (as_run es new_loader ∙ ap (run (reads nothing_read)) h ∙ documents_came ds [] [] (Ev.stream_end ∷ []))
