-- Nested events: each start has its end in order, a mapping has an even number of children, and a document has at most
-- one node. YAML 1.2, section 3.1.1 (the serialization's events stand for a tree).
use Rattle.std.specs.Prelude.{◌≡◌, ℕ, Bool, true, false, List, [], ◌∷◌, Option, Some, None}
use Rattle.defs_token.specs.Token.{Style}
use Rattle.defs_event.specs.Event.{Tag, Ev}

-- ---- as what is nested

mutual
  pub data Nest : Type 0 where
    nested_alias : (number : ℕ) → Nest
    nested_scalar : (text : List ℕ) → Style → (anchor : ℕ) → Option Tag → Nest
    nested_sequence : (anchor : ℕ) → Option Tag → Nests → Nest
    nested_mapping : (anchor : ℕ) → Option Tag → NestPairs → Nest

  -- the children of a sequence
  pub data Nests : Type 0 where
    no_nests : Nests
    nest : Nest → Nests → Nests

  -- the children of a mapping: a key and its value each
  pub data NestPairs : Type 0 where
    no_nest_pairs : NestPairs
    nest_pair : Nest → Nest → NestPairs → NestPairs

pub data NestedDocument : Type 0 where
  without_node : NestedDocument
  with_node : Nest → NestedDocument

-- the events of each, before r
abbrev mutual
  pub nest_events : Nest → List Ev → List Ev
  nest_events (nested_alias n) r = Ev.alias n ∷ r
  nest_events (nested_scalar x s a t) r = Ev.scalar x s a t ∷ r
  nest_events (nested_sequence a t ns) r = Ev.sequence_start a t ∷ nests_events ns (Ev.sequence_end ∷ r)
  nest_events (nested_mapping a t ps) r = Ev.mapping_start a t ∷ nest_pairs_events ps (Ev.mapping_end ∷ r)

  pub nests_events : Nests → List Ev → List Ev
  nests_events no_nests r = r
  nests_events (nest n ns) r = nest_events n (nests_events ns r)

  pub nest_pairs_events : NestPairs → List Ev → List Ev
  nest_pairs_events no_nest_pairs r = r
  nest_pairs_events (nest_pair k v ps) r = nest_events k (nest_events v (nest_pairs_events ps r))

abbrev pub nested_document_events : NestedDocument → List Ev → List Ev
nested_document_events without_node r = Ev.document_start ∷ Ev.document_end ∷ r
nested_document_events (with_node n) r = Ev.document_start ∷ nest_events n (Ev.document_end ∷ r)

abbrev pub nested_documents_events : List NestedDocument → List Ev → List Ev
nested_documents_events [] r = r
nested_documents_events (d ∷ ds) r = nested_document_events d (nested_documents_events ds r)

-- the events of a stream of nested documents
abbrev pub nested_stream : List NestedDocument → List Ev
nested_stream ds = Ev.stream_start ∷ nested_documents_events ds (Ev.stream_end ∷ [])

-- These events are nested.
abbrev pub IsNested : List Ev → Type 0
IsNested events = (ds : List NestedDocument) × (nested_stream ds ≡ events)

-- ---- as a test: what is open, the innermost first

pub data Open : Type 0 where
  in_stream : Open
  before_node : Open
  after_node : Open
  in_sequence : Open
  at_key : Open
  at_value : Open

-- after a node that stands there, or nothing where none may stand
abbrev pub with_child : Open → Option Open
with_child before_node = Some after_node
with_child in_sequence = Some in_sequence
with_child at_key = Some at_value
with_child at_value = Some at_key
with_child _ = None

abbrev pub child_then : Option Open → List Open → List Open → Option (List Open)
child_then None inner outer = None
child_then (Some o) [] outer = Some (o ∷ outer)
child_then (Some o) (i ∷ inner) outer = Some (i ∷ o ∷ outer)

-- what is open after an event, or nothing where it is out of order
abbrev pub open_after : Ev → List Open → Option (List Open)
open_after Ev.document_start (in_stream ∷ os) = Some (before_node ∷ in_stream ∷ os)
open_after Ev.document_end (before_node ∷ os) = Some os
open_after Ev.document_end (after_node ∷ os) = Some os
open_after Ev.stream_end (in_stream ∷ os) = Some os
open_after Ev.sequence_end (in_sequence ∷ os) = Some os
open_after Ev.mapping_end (at_key ∷ os) = Some os
open_after (Ev.alias n) (o ∷ os) = child_then (with_child o) [] os
open_after (Ev.scalar x s a t) (o ∷ os) = child_then (with_child o) [] os
open_after (Ev.sequence_start a t) (o ∷ os) = child_then (with_child o) (in_sequence ∷ []) os
open_after (Ev.mapping_start a t) (o ∷ os) = child_then (with_child o) (at_key ∷ []) os
open_after _ _ = None

-- whether the test holds of what there is, and there is something
abbrev pub there_and : (List Open → Bool) → Option (List Open) → Bool
there_and test None = false
there_and test (Some os) = test os

abbrev pub is_nothing_open : List Open → Bool
is_nothing_open [] = true
is_nothing_open (o ∷ os) = false

-- Each event is in order, and the last one closes all that is open.
abbrev pub closes : List Ev → List Open → Bool
closes [] os = is_nothing_open os
closes (e ∷ es) os = there_and (closes es) (open_after e os)

abbrev pub is_nested : List Ev → Bool
is_nested (Ev.stream_start ∷ es) = closes es (in_stream ∷ [])
is_nested _ = false
