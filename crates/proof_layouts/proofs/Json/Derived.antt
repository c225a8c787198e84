-- The tokens of a JSON text are read by the table of the token grammar, and say its events.
use Rattle.proof_layouts.proofs.Common.{[], Bool, element_nests, element_tokens, Elements, Ev, in_block, in_flow, Json, json_tokens, JsonTokensAreAStream, List, member_nests, member_tokens, Members, Names, nest_events, nest_pairs_events, nested_of, nests_events, node, None, Place, Raw, refl, saying, Tok, ◌∷◌}
use Rattle.defs_event.specs.Grammar as at
use Rattle.proof_layouts.proofs.Says.{Works, goal_and, Says, taken, left, said, behind, scalar, flow_sequence, flow_mapping, stream_ends, stream_said}

-- ---- a value's first token leaves a goal for a node

item_left : {keep_tags : Bool} {s : Names} {w : Works} {es : List Ev} (v : Json) (r : List Tok)
    → Says keep_tags s (goal_and (node in_flow) (goal_and at.flow_sequence_comma w)) (json_tokens v r) es
    → Says keep_tags s (goal_and at.flow_sequence_entries w) (json_tokens v r) es
item_left Json.false_word r x = left _ refl x
item_left _ r x = left _ refl x

member_left : {keep_tags : Bool} {s : Names} {w : Works} {es : List Ev} (v : Json) (r : List Tok)
    → Says keep_tags s (goal_and (node in_flow) w) (json_tokens v r) es
    → Says keep_tags s (goal_and at.flow_mapping_valued w) (json_tokens v r) es
member_left Json.false_word r x = left _ refl x
member_left _ r x = left _ refl x

document_left : {keep_tags : Bool} {s : Names} {w : Works} {es : List Ev} (v : Json) (r : List Tok)
    → Says keep_tags s (saying (Raw.document_start []) ∷ goal_and (node in_block) (goal_and at.document_end w)) (json_tokens v r) es
    → Says keep_tags s (goal_and at.documents w) (json_tokens v r) es
document_left Json.false_word r x = left _ refl x
document_left _ r x = left _ refl x

-- ---- values

mutual
  pub value_said : {keep_tags : Bool} {s : Names} {w : Works} {r : List Tok} {es : List Ev} (p : Place) (v : Json) → Says keep_tags s (behind p w) r es
      → Says keep_tags s (goal_and (node p) w) (json_tokens v r) (nest_events (nested_of v) es)
  value_said p (Json.empty_array g) x = flow_sequence None p (taken _ refl (said _ refl x))
  value_said p (Json.array g vs) x = flow_sequence None p (elements_said vs x)
  value_said p (Json.empty_object g) x = flow_mapping None p (taken _ refl (said _ refl x))
  value_said p (Json.object g ms) x = flow_mapping None p (members_said ms x)
  value_said p _ x = scalar None p _ _ x

  -- after `[` or a comma
  elements_said : {keep_tags : Bool} {s : Names} {w : Works} {r : List Tok} {es : List Ev} (vs : Elements) → Says keep_tags s w r es
      → Says keep_tags s (goal_and at.flow_sequence_entries w) (element_tokens vs (Tok.flow_sequence_end ∷ r))
      (nests_events (element_nests vs) (Ev.sequence_end ∷ es))
  elements_said (Elements.last_element v a) x = item_left v _ (value_said in_flow v (taken _ refl (said _ refl x)))
  elements_said (Elements.element v a b vs) x = item_left v _ (value_said in_flow v (taken _ refl (elements_said vs x)))

  -- after `{` or a comma
  members_said : {keep_tags : Bool} {s : Names} {w : Works} {r : List Tok} {es : List Ev} {before : at.Start} (ms : Members) → Says keep_tags s w r es
      → Says keep_tags s (goal_and (at.flow_mapping_entries before) w) (member_tokens ms (Tok.flow_mapping_end ∷ r))
      (nest_pairs_events (member_nests ms) (Ev.mapping_end ∷ es))
  members_said (Members.last_member k g h v a) x =
      taken _ refl (scalar None in_flow _ _ (taken _ refl (member_left v _ (value_said in_flow v (taken _ refl (said _ refl x))))))
  members_said (Members.member k g h v a b ms) x =
      taken _ refl (scalar None in_flow _ _ (taken _ refl (member_left v _ (value_said in_flow v (taken _ refl (members_said ms x))))))

-- one document without marker
pub tokens_are_a_stream : JsonTokensAreAStream
tokens_are_a_stream keep_tags w =
    stream_said (taken _ refl (said _ refl (document_left w.value _ (said _ refl (value_said in_block w.value stream_ends)))))
