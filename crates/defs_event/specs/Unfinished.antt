-- A reading that is not at its end, and what one more event makes of it. It takes events in any order, and refuses those out of
-- nesting. YAML 1.2, section 3.1 (construction from the serialization's events).
use Rattle.std.specs.Prelude.{ℕ, if◌then◌else◌, List, [], ◌∷◌, ◌++◌, Option, Some, None, unwrap_or}
use Rattle.defs_text.specs.Position.{Position}
use Rattle.defs_tree.specs.Tree.{Tree, array, hash, bad_value, items_of, pairs_of}
use Rattle.defs_tree.specs.Pairs.{has_key, insert}
use Rattle.defs_event.specs.Event.{Ev}
use Rattle.defs_event.specs.Scalar.{scalar_tree}
use Rattle.defs_event.specs.Anchors.{Anchors, aliased, finished}

-- an open collection: its anchor, what it holds, and of a mapping the key that waits for its value
pub data Opened : Type 0 where
  opened_sequence : (anchor : ℕ) → (items : List Tree) → Opened
  opened_mapping : (anchor : ℕ) → (pairs : List (Tree × Tree)) → (waiting : Option Tree) → Opened

pub record Unfinished : Type 0 where
  -- the finished documents
  pub documents : List Tree
  -- the open collections, the innermost first
  pub opened : List Opened
  -- the document's root, where it is complete
  pub root : Option Tree
  -- the finished anchors
  pub anchors : Anchors

abbrev pub nothing_read : Unfinished
nothing_read = record { documents = []; opened = []; root = None; anchors = [] }

-- What an event makes of an unfinished reading.
pub data Step : Type 0 where
  reads : Unfinished → Step
  -- the value of a key that its mapping has already
  repeats : (key : Tree) → Step
  -- the event stands out of nesting
  out_of_nesting : Step

-- A complete tree with no collection open around it: the root.
abbrev pub with_root : Tree → Unfinished → Option Tree → Step
with_root t u None = reads (record u { opened = []; root = Some t })
with_root t u (Some root) = out_of_nesting

-- A complete tree: the document's root, the next item, the next key, or the value of the key that waits.
abbrev pub with_tree : Tree → Unfinished → List Opened → Step
with_tree t u [] = with_root t u u.root
with_tree t u (opened_sequence a ts ∷ outer) = reads (record u { opened = opened_sequence a (ts ++ t ∷ []) ∷ outer })
with_tree t u (opened_mapping a ps None ∷ outer) = reads (record u { opened = opened_mapping a ps (Some t) ∷ outer })
with_tree t u (opened_mapping a ps (Some k) ∷ outer) =
    if has_key k ps then repeats k else reads (record u { opened = opened_mapping a (insert k t ps) None ∷ outer })

-- A complete node with this anchor, in these open collections.
abbrev pub with_node : ℕ → Tree → Unfinished → List Opened → Step
with_node a t u outer = with_tree t (record u { anchors = finished a t u.anchors }) outer

-- A collection begins, where a node may stand.
abbrev pub with_start : Opened → Unfinished → List Opened → Option Tree → Step
with_start c u [] (Some root) = out_of_nesting
with_start c u outer root = reads (record u { opened = c ∷ outer })

abbrev pub with_sequence_end : Unfinished → List Opened → Step
with_sequence_end u (opened_sequence a ts ∷ outer) = with_node a (array (items_of ts)) u outer
with_sequence_end u _ = out_of_nesting

-- No key may wait for its value.
abbrev pub with_mapping_end : Unfinished → List Opened → Step
with_mapping_end u (opened_mapping a ps None ∷ outer) = with_node a (hash (pairs_of ps)) u outer
with_mapping_end u _ = out_of_nesting

-- No collection may be open; a document without a node is a bad value.
abbrev pub with_document_end : Unfinished → List Opened → Step
with_document_end u [] = reads (record u { documents = u.documents ++ unwrap_or u.root bad_value ∷ []; root = None })
with_document_end u (c ∷ outer) = out_of_nesting

-- One more event.
abbrev pub with_event : Unfinished → Ev → Step
with_event u Ev.nothing = reads u
with_event u Ev.stream_start = reads u
with_event u Ev.stream_end = reads u
with_event u Ev.document_start = reads u
with_event u Ev.document_end = with_document_end u u.opened
with_event u (Ev.alias n) = with_tree (aliased n u.anchors) u u.opened
with_event u (Ev.scalar text style a tag) = with_node a (scalar_tree text style tag) u u.opened
with_event u (Ev.sequence_start a tag) = with_start (opened_sequence a []) u u.opened u.root
with_event u Ev.sequence_end = with_sequence_end u u.opened
with_event u (Ev.mapping_start a tag) = with_start (opened_mapping a [] None) u u.opened u.root
with_event u Ev.mapping_end = with_mapping_end u u.opened

-- ---- a loader, to which events are handed one by one with their positions

pub data Loader : Type 0 where
  at_work : Unfinished → Loader
  -- A key that came twice was noted, with the position of its value's event; from then on events are ignored.
  noted : (documents : List Tree) → (key : Tree) → Position → Loader
  -- An event out of nesting was refused at this position. Every later event is refused with the same fault.
  refused : (documents : List Tree) → Position → Loader

abbrev pub new_loader : Loader
new_loader = at_work nothing_read

abbrev pub loader_after : Step → List Tree → Position → Loader
loader_after (reads u) documents p = at_work u
loader_after (repeats key) documents p = noted documents key p
loader_after out_of_nesting documents p = refused documents p

-- the loader after an event
abbrev pub with_event_at : Loader → Ev → Position → Loader
with_event_at (at_work u) e p = loader_after (with_event u e) u.documents p
with_event_at (noted documents key at) e p = noted documents key at
with_event_at (refused documents at) e p = refused documents at

-- after all these events
abbrev pub with_events : Loader → List (Ev × Position) → Loader
with_events l [] = l
with_events l (e ∷ es) = with_events (with_event_at l e.0 e.1) es

-- the documents that are finished
abbrev pub documents_of : Loader → List Tree
documents_of (at_work u) = u.documents
documents_of (noted documents key p) = documents
documents_of (refused documents p) = documents

-- the position of the fault that is returned, if there is one
abbrev pub refused_at : Loader → Option Position
refused_at (at_work u) = None
refused_at (noted documents key p) = None
refused_at (refused documents p) = Some p
