-- The test of nesting holds of nested events and of no others.
use Rattle.defs_event.proofs.Common.{[], after_node, ap, at_key, at_value, before_node, child_then, closes, Ev, in_sequence, in_stream, is_nested, IsNested, IsTrue, List, Nest, nest, nest_events, nest_pair, nest_pairs_events, nested_alias, nested_document_events, nested_documents_events, nested_mapping, nested_scalar, nested_sequence, NestedDocument, NestPairs, Nests, nests_events, no_nest_pairs, no_nests, Open, Option, refl, Some, there_and, with_child, with_node, without_node, ◌↔◌, ◌∙◌, ◌∷◌, ◌≡◌, arith}

-- ---- nested events pass

mutual
  node_passes : (n : Nest) (o o' : Open) (os : List Open) (r : List Ev) → with_child o ≡ Some o' → closes (nest_events n r) (o ∷ os) ≡ closes r (o' ∷ os)
  node_passes (nested_alias n) o o' os r h = ap (λ c. there_and (closes r) (child_then c [] os)) h
  node_passes (nested_scalar x s a t) o o' os r h = ap (λ c. there_and (closes r) (child_then c [] os)) h
  node_passes (nested_sequence a t ns) o o' os r h =
      ap (λ c. there_and (closes (nests_events ns (Ev.sequence_end ∷ r))) (child_then c (in_sequence ∷ []) os)) h
      ∙ nodes_pass ns (o' ∷ os) (Ev.sequence_end ∷ r)
  node_passes (nested_mapping a t ps) o o' os r h =
      ap (λ c. there_and (closes (nest_pairs_events ps (Ev.mapping_end ∷ r))) (child_then c (at_key ∷ []) os)) h
      ∙ pairs_pass ps (o' ∷ os) (Ev.mapping_end ∷ r)

  nodes_pass : (ns : Nests) (os : List Open) (r : List Ev) → closes (nests_events ns r) (in_sequence ∷ os) ≡ closes r (in_sequence ∷ os)
  nodes_pass no_nests os r = refl
  nodes_pass (nest n ns) os r = node_passes n in_sequence in_sequence os (nests_events ns r) refl ∙ nodes_pass ns os r

  pairs_pass : (ps : NestPairs) (os : List Open) (r : List Ev) → closes (nest_pairs_events ps r) (at_key ∷ os) ≡ closes r (at_key ∷ os)
  pairs_pass no_nest_pairs os r = refl
  pairs_pass (nest_pair k v ps) os r =
      node_passes k at_key at_value os (nest_events v (nest_pairs_events ps r)) refl
      ∙ node_passes v at_value at_key os (nest_pairs_events ps r) refl ∙ pairs_pass ps os r

document_passes : (d : NestedDocument) (os : List Open) (r : List Ev) → closes (nested_document_events d r) (in_stream ∷ os) ≡ closes r (in_stream ∷ os)
document_passes without_node os r = refl
document_passes (with_node n) os r = node_passes n before_node after_node (in_stream ∷ os) (Ev.document_end ∷ r) refl

documents_pass : (ds : List NestedDocument) (r : List Ev) → closes (nested_documents_events ds r) (in_stream ∷ []) ≡ closes r (in_stream ∷ [])
documents_pass [] r = refl
documents_pass (d ∷ ds) r = document_passes d [] (nested_documents_events ds r) ∙ documents_pass ds r

nested_pass : (es : List Ev) → IsNested es → IsTrue (is_nested es)
nested_pass es h = rw (← h.1) (documents_pass h.0 (Ev.stream_end ∷ []))

-- ---- what passes is nested: the events fill what is open

abbrev Fills : List Open → List Ev → Type 0
Fills [] es = es ≡ []
Fills (in_stream ∷ os) es = (ds : List NestedDocument) × (vs : List Ev) × (es ≡ nested_documents_events ds (Ev.stream_end ∷ vs)) × Fills os vs
Fills (before_node ∷ os) es = (d : NestedDocument) × (vs : List Ev) × (Ev.document_start ∷ es ≡ nested_document_events d vs) × Fills os vs
Fills (after_node ∷ os) es = (vs : List Ev) × (es ≡ Ev.document_end ∷ vs) × Fills os vs
Fills (in_sequence ∷ os) es = (ns : Nests) × (vs : List Ev) × (es ≡ nests_events ns (Ev.sequence_end ∷ vs)) × Fills os vs
Fills (at_key ∷ os) es = (ps : NestPairs) × (vs : List Ev) × (es ≡ nest_pairs_events ps (Ev.mapping_end ∷ vs)) × Fills os vs
Fills (at_value ∷ os) es = (v : Nest) × (ps : NestPairs) × (vs : List Ev) × (es ≡ nest_events v (nest_pairs_events ps (Ev.mapping_end ∷ vs))) × Fills os vs

-- A node there, and what fills the rest.
filled : (o o' : Open) (n : Nest) (os : List Open) (es vs : List Ev) → with_child o ≡ Some o' → es ≡ nest_events n vs → Fills (o' ∷ os) vs → Fills (o ∷ os) es
filled before_node after_node n os es vs h e f = (with_node n, f.0, cc, f.2)
filled in_sequence in_sequence n os es vs h e f = (nest n f.0, f.1, cc, f.3)
filled at_key at_value n os es vs h e f = (nest_pair n f.0 f.1, f.2, cc, f.4)
filled at_value at_key n os es vs h e f = (n, f.0, f.1, cc, f.3)
filled o o' n os es vs h e f = cc

-- what a node leaves open, where one may stand
left_open : (c : Option Open) (inner os : List Open) (es : List Ev) → IsTrue (there_and (closes es) (child_then c inner os)) → (o : Open) × (c ≡ Some o) × IsTrue (there_and (closes es) (child_then (Some o) inner os))
left_open c inner os es h = grind arith

fills : (es : List Ev) (os : List Open) → IsTrue (closes es os) → Fills os es
fills [] [] h = refl
fills [] (o ∷ os) h = cc
fills (Ev.document_start ∷ es) (in_stream ∷ os) h =
    let f = fills es (before_node ∷ in_stream ∷ os) h in
    (f.0 ∷ f.3.0, f.3.1, cc, f.3.3)
fills (Ev.stream_end ∷ es) (in_stream ∷ os) h = ([], es, refl, fills es os h)
fills (Ev.document_end ∷ es) (before_node ∷ os) h = (without_node, es, refl, fills es os h)
fills (Ev.document_end ∷ es) (after_node ∷ os) h = (es, refl, fills es os h)
fills (Ev.sequence_end ∷ es) (in_sequence ∷ os) h = (no_nests, es, refl, fills es os h)
fills (Ev.mapping_end ∷ es) (at_key ∷ os) h = (no_nest_pairs, es, refl, fills es os h)
fills (Ev.alias n ∷ es) (o ∷ os) h =
    let c = left_open (with_child o) [] os es h in
    filled o c.0 (nested_alias n) os (Ev.alias n ∷ es) es c.1 refl (fills es (c.0 ∷ os) c.2)
fills (Ev.scalar x s a t ∷ es) (o ∷ os) h =
    let c = left_open (with_child o) [] os es h in
    filled o c.0 (nested_scalar x s a t) os (Ev.scalar x s a t ∷ es) es c.1 refl (fills es (c.0 ∷ os) c.2)
fills (Ev.sequence_start a t ∷ es) (o ∷ os) h =
    let c = left_open (with_child o) (in_sequence ∷ []) os es h in
    let f = fills es (in_sequence ∷ c.0 ∷ os) c.2 in
    filled o c.0 (nested_sequence a t f.0) os (Ev.sequence_start a t ∷ es) f.1 c.1 (cc) f.3
fills (Ev.mapping_start a t ∷ es) (o ∷ os) h =
    let c = left_open (with_child o) (at_key ∷ []) os es h in
    let f = fills es (at_key ∷ c.0 ∷ os) c.2 in
    filled o c.0 (nested_mapping a t f.0) os (Ev.mapping_start a t ∷ es) f.1 c.1 (cc) f.3
fills (e ∷ es) os h = cc

pass_nested : (es : List Ev) → IsTrue (is_nested es) → IsNested es
pass_nested (Ev.stream_start ∷ es) h =
    let f = fills es (in_stream ∷ []) h in (f.0, cc)
pass_nested es h = cc

pub test_is_exact : (es : List Ev) → IsTrue (is_nested es) ↔ IsNested es
test_is_exact es = (pass_nested es, nested_pass es)
