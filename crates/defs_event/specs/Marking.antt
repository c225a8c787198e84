-- The marks that events give, one event after the other: a node begins at the position of the event that starts it.
-- YAML 1.2, section 3.1.1 (the serialization as events) and section 3.2.2.2 (anchors and aliases).
use Rattle.std.specs.Prelude.{ℕ, zero, suc, nat_eq, if◌then◌else◌, List, [], ◌∷◌, ◌++◌, Option, Some, None, unwrap_or}
use Rattle.defs_text.specs.Position.{Position}
use Rattle.defs_event.specs.Event.{Ev}
use Rattle.defs_event.specs.Marks.{Marks, marks, leaf, parts_of}

-- a collection that is open: its anchor, the position of its start, and the marks of its parts so far
pub record OpenMarks : Type 0 where
  pub anchor : ℕ
  pub start : Position
  pub parts : List Marks

-- the finished anchors, the last one first
abbrev pub MarkedAnchors : Type 0
MarkedAnchors = List (ℕ × Marks)

pub record Marking : Type 0 where
  -- the roots of the finished documents
  pub documents : List Marks
  -- the open collections, the innermost first
  pub opened : List OpenMarks
  -- the document's root, where it is complete
  pub root : Option Marks
  pub anchors : MarkedAnchors

abbrev pub nothing_marked : Marking
nothing_marked = record { documents = []; opened = []; root = None; anchors = [] }

-- An alias stands at its own position, and its tree is that of its anchor.
abbrev pub alias_of : Position → Marks → Marks
alias_of p (marks own tree ps) = marks p tree ps

-- An alias of this number. One without a finished anchor has no parts.
abbrev pub aliased_marks : ℕ → Position → MarkedAnchors → Marks
aliased_marks n p [] = leaf p
aliased_marks n p (a ∷ anchors) = if nat_eq n a.0 then alias_of p a.1 else aliased_marks n p anchors

-- A node with this anchor is finished; the number 0 is no anchor.
abbrev pub finished_marks : ℕ → Marks → MarkedAnchors → MarkedAnchors
finished_marks zero m anchors = anchors
finished_marks (suc n) m anchors = (suc n, m) ∷ anchors

-- A complete node: the root, or the next part of the innermost collection.
abbrev pub with_part : Marks → Marking → List OpenMarks → Marking
with_part m x [] = record x { opened = []; root = Some m }
with_part m x (o ∷ outer) = record x { opened = record o { parts = o.parts ++ m ∷ [] } ∷ outer }

-- A complete node with this anchor.
abbrev pub with_anchored : ℕ → Marks → Marking → List OpenMarks → Marking
with_anchored a m x outer = with_part m (record x { anchors = finished_marks a m x.anchors }) outer

-- A collection begins.
abbrev pub with_open : ℕ → Position → Marking → Marking
with_open a p x = record x { opened = record { anchor = a; start = p; parts = [] } ∷ x.opened }

-- The innermost collection ends. It begins at the position of its start.
abbrev pub with_close : Marking → List OpenMarks → Marking
with_close x [] = x
with_close x (o ∷ outer) = with_anchored o.anchor (marks o.start o.start (parts_of o.parts)) x outer

-- One more event at its position. A document without a node begins where it ends.
abbrev pub with_event_marked : Marking → Ev → Position → Marking
with_event_marked x Ev.nothing p = x
with_event_marked x Ev.stream_start p = x
with_event_marked x Ev.stream_end p = x
with_event_marked x Ev.document_start p = x
with_event_marked x Ev.document_end p = record x { documents = x.documents ++ unwrap_or x.root (leaf p) ∷ []; root = None }
with_event_marked x (Ev.alias n) p = with_part (aliased_marks n p x.anchors) x x.opened
with_event_marked x (Ev.scalar text style a tag) p = with_anchored a (leaf p) x x.opened
with_event_marked x (Ev.sequence_start a tag) p = with_open a p x
with_event_marked x Ev.sequence_end p = with_close x x.opened
with_event_marked x (Ev.mapping_start a tag) p = with_open a p x
with_event_marked x Ev.mapping_end p = with_close x x.opened

-- after all these events
abbrev pub with_events_marked : Marking → List (Ev × Position) → Marking
with_events_marked x [] = x
with_events_marked x (e ∷ es) = with_events_marked (with_event_marked x e.0 e.1) es

-- the marks of the documents that these events are read as
abbrev pub marked_documents : List (Ev × Position) → List Marks
marked_documents es = (with_events_marked nothing_marked es).documents
