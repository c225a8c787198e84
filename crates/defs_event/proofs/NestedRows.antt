-- Nested events, and events that are not.
use Rattle.std.specs.List.{list_any}
use Rattle.defs_event.proofs.Common.{[], codes, Ev, false, is_nested, IsNested, List, nest, nest_pair, nested_alias, nested_mapping, nested_scalar, nested_sequence, no_nest_pairs, no_nests, None, refl, Style, with_node, without_node, ◌++◌, ◌∷◌, ◌≡◌}
use Rattle.defs_event.proofs.Texts.{plain_event}

no_document : IsNested (Ev.stream_start ∷ Ev.stream_end ∷ [])
no_document = ([], refl)

-- `[a, {b: *x, []: &x {}}]`, a document without node, and one of a scalar
deep : IsNested (Ev.stream_start ∷ Ev.document_start
    ∷ Ev.sequence_start 0 None ∷ plain_event (codes "a")
    ∷ Ev.mapping_start 0 None ∷ plain_event (codes "b") ∷ Ev.alias 1 ∷ Ev.sequence_start 0 None ∷ Ev.sequence_end ∷ Ev.mapping_start 1 None ∷ Ev.mapping_end ∷ Ev.mapping_end
    ∷ Ev.sequence_end ∷ Ev.document_end
    ∷ Ev.document_start ∷ Ev.document_end
    ∷ Ev.document_start ∷ plain_event (codes "c") ∷ Ev.document_end ∷ Ev.stream_end ∷ [])
deep = (
  with_node (nested_sequence 0 None (nest (nested_scalar (codes "a") Style.plain 0 None) (nest (nested_mapping 0 None
      (nest_pair (nested_scalar (codes "b") Style.plain 0 None) (nested_alias 1)
      (nest_pair (nested_sequence 0 None no_nests) (nested_mapping 1 None no_nest_pairs) no_nest_pairs))) no_nests)))
      ∷ without_node ∷ with_node (nested_scalar (codes "c") Style.plain 0 None) ∷ [],
  refl,
)

-- a stream of one document
abbrev of_document : List Ev → List Ev
of_document es = Ev.stream_start ∷ Ev.document_start ∷ (es ++ Ev.document_end ∷ Ev.stream_end ∷ [])

-- Start or end is missing, something stands after the end or outside a document, or a document is open.
streams_that_are_not : list_any is_nested (
    [] ∷ (Ev.stream_start ∷ []) ∷ (Ev.stream_end ∷ []) ∷ (Ev.stream_start ∷ Ev.stream_end ∷ Ev.stream_end ∷ [])
    ∷ (Ev.stream_start ∷ plain_event (codes "a") ∷ Ev.stream_end ∷ []) ∷ (Ev.stream_start ∷ Ev.document_start ∷ Ev.stream_end ∷ []) ∷ []) ≡ false
streams_that_are_not = refl

-- A document in a document, two nodes, an open sequence, wrong and crossed ends, a key without value, an event that is none.
documents_that_are_not : list_any is_nested (
    of_document (Ev.document_start ∷ Ev.document_end ∷ []) ∷ of_document (plain_event (codes "a") ∷ Ev.sequence_start 0 None ∷ Ev.sequence_end ∷ [])
    ∷ of_document (Ev.sequence_start 0 None ∷ []) ∷ of_document (Ev.sequence_start 0 None ∷ Ev.mapping_end ∷ []) ∷ of_document (Ev.mapping_start 0 None ∷ Ev.sequence_end ∷ [])
    ∷ of_document (Ev.sequence_start 0 None ∷ Ev.mapping_start 0 None ∷ Ev.sequence_end ∷ Ev.mapping_end ∷ [])
    ∷ of_document (Ev.mapping_start 0 None ∷ plain_event (codes "k") ∷ Ev.mapping_end ∷ []) ∷ of_document (Ev.nothing ∷ []) ∷ []) ≡ false
documents_that_are_not = refl
