-- The tokens of a basic layout are read by the table of the token grammar, and say the events of its one nested document.
use Rattle.proof_layouts.proofs.Common.{[], all_field_nests, all_field_tokens, AreBasicDocuments, AreBasicEntries, AreBasicFields, BasicTokensAreAStream, Block, block_nest, block_tokens, Bool, document_nest, Documents, documents_tokens, Entries, entry_nests, entry_tokens, Ev, Field, field_nests, field_tokens, Fields, Inline, inline_nest, inline_tokens, IsBasicBlock, IsBasicField, IsBasicInline, IsBasicRoot, IsBasicScalar, IsBasicValue, IsStream, List, marked, Names, nest_events, nest_pairs_events, nested_stream, NestPairs, nests_events, node, None, Option, Place, refl, Root, root_nest, root_tokens, Scalar, scalar_nest, scalar_token, Side, Some, subst, sym, Tok, true, Value, value_nest, value_tokens, with_node, ◌∷◌}
use Rattle.defs_event.specs.Grammar as at
use Rattle.proof_layouts.proofs.Says.{Works, goal_and, Says, taken, left, said, behind, outside, scalar, flow_sequence, flow_mapping, block_sequence, block_mapping, stream_ends, stream_said}

scalar_said : {keep_tags : Bool} {s : Names} {w : Works} {r : List Tok} {es : List Ev} (p : Place) (x : Scalar) (h : IsBasicScalar x)
    → Says keep_tags s (behind p w) r es → Says keep_tags s (goal_and (node p) w) (scalar_token x ∷ r) (nest_events (scalar_nest x h) es)
scalar_said p (Scalar.single_quoted text) h d = absurd h
scalar_said p _ h d = scalar None p _ _ d

inline_said : {keep_tags : Bool} {s : Names} {w : Works} {r : List Tok} {es : List Ev} (p : Place) (i : Inline) (h : IsBasicInline i)
    → Says keep_tags s (behind p w) r es → Says keep_tags s (goal_and (node p) w) (inline_tokens i r) (nest_events (inline_nest i h) es)
inline_said p (Inline.scalar x) h d = scalar_said p x h d
inline_said p Inline.empty_array h d = flow_sequence None p (taken _ refl (said _ refl d))
inline_said p Inline.empty_hash h d = flow_mapping None p (taken _ refl (said _ refl d))

mutual
  block_said : {keep_tags : Bool} {s : Names} {w : Works} {r : List Tok} {es : List Ev} (q : Option Side) (b : Block) (h : IsBasicBlock b)
      → Says keep_tags s (behind (outside q) w) r es → Says keep_tags s (goal_and (node (outside q)) w) (block_tokens b r) (nest_events (block_nest b h) es)
  block_said q (Block.array vs) h d = block_sequence None q (entries_said vs h d)
  block_said q (Block.hash fs) h d = block_mapping None q (fields_said fs h d)

  value_said : {keep_tags : Bool} {s : Names} {w : Works} {r : List Tok} {es : List Ev} (q : Option Side) (v : Value) (h : IsBasicValue v)
      → Says keep_tags s (behind (outside q) w) r es → Says keep_tags s (goal_and (node (outside q)) w) (value_tokens v r) (nest_events (value_nest v h) es)
  value_said q (Value.beside more i after) h d = inline_said (outside q) i h.0 d
  value_said q (Value.literal more column text ls) h d = scalar None (outside q) _ _ d
  value_said q (Value.compact more b) h d = block_said q b h d
  value_said q (Value.below after g column b) h d = block_said q b h.1 d
  value_said q _ h d = absurd h

  entries_said : {keep_tags : Bool} {s : Names} {w : Works} {r : List Tok} {es : List Ev} (vs : Entries) (h : AreBasicEntries vs) → Says keep_tags s w r es
      → Says keep_tags s (goal_and at.block_sequence_entries w) (entry_tokens vs (Tok.block_end ∷ r)) (nests_events (entry_nests vs h) (Ev.sequence_end ∷ es))
  entries_said (Entries.last_entry v) h d = taken _ refl (value_said None v h (taken _ refl (said _ refl d)))
  entries_said (Entries.entry v g vs) h d = taken _ refl (value_said None v h.0 (entries_said vs h.1 d))

  field_said : {keep_tags : Bool} {s : Names} {w : Works} {r : List Tok} (f : Field) (h : IsBasicField f) (ns : NestPairs) (es : List Ev)
      → Says keep_tags s (goal_and at.block_mapping_entries w) r (nest_pairs_events ns es)
      → Says keep_tags s (goal_and at.block_mapping_entries w) (field_tokens f r) (nest_pairs_events (field_nests f h ns) es)
  field_said (Field.implicit k v) h ns es d = taken _ refl (scalar_said (outside (Some at.key)) k h.0 (taken _ refl (value_said (Some at.value) v h.1 d)))
  field_said (Field.explicit k g v) h ns es d = taken _ refl (value_said (Some at.key) k h.0 (taken _ refl (value_said (Some at.value) v h.1 d)))

  fields_said : {keep_tags : Bool} {s : Names} {w : Works} {r : List Tok} {es : List Ev} (fs : Fields) (h : AreBasicFields fs) → Says keep_tags s w r es
      → Says keep_tags s (goal_and at.block_mapping_entries w) (all_field_tokens fs (Tok.block_end ∷ r))
      (nest_pairs_events (all_field_nests fs h) (Ev.mapping_end ∷ es))
  fields_said (Fields.last_field f) h d = field_said f h _ _ (taken _ refl (said _ refl d))
  fields_said (Fields.field f g fs) h d = field_said f h.0 _ _ (fields_said fs h.1 d)

root_said : {keep_tags : Bool} {s : Names} {w : Works} {r : List Tok} {es : List Ev} (x : Root) (h : IsBasicRoot x) → Says keep_tags s w r es
    → Says keep_tags s (goal_and (node at.in_block) w) (root_tokens x r) (nest_events (root_nest x h) es)
root_said (Root.block column b) h d = block_said None b h d
root_said (Root.inline i) h d = inline_said at.in_block i h d
root_said (Root.literal text ls) h d = scalar None at.in_block _ _ d

document_said : {keep_tags : Bool} (ds : Documents) (h : AreBasicDocuments ds)
    → IsStream keep_tags (Tok.stream_start ∷ marked true (documents_tokens ds)) (nested_stream (with_node (document_nest ds h) ∷ []))
document_said (Documents.last_document d after) h =
    stream_said (taken _ refl (said _ refl (left _ refl (taken _ refl (said _ refl (root_said d.root h stream_ends))))))
document_said (Documents.document d g ds) h = absurd h

pub tokens_are_a_stream : BasicTokensAreAStream
tokens_are_a_stream keep_tags w basic =
    rw (basic.0) (document_said w.documents basic.1)
