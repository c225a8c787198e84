-- The events that the table says are nested: what each goal's events make of what is open, and that its rows make the same of it.
use Rattle.std.specs.Option.{option_and, option_and_then}
use Rattle.defs_event.proofs.Common.{[], after_anchor, after_brace, after_comma, after_node, after_tag, ap, at_key, at_value, before, block_mapping_entries, block_mapping_value, block_sequence_entries, Bool, by_leaving, by_taking, cases, child_then, closes, content, Derives, directives, document_end, documents, Ev, explicit_document, flow_mapping_comma, flow_mapping_entries, flow_mapping_value, flow_mapping_valued, flow_sequence_comma, flow_sequence_entries, flow_value, Goal, grammar, Held, in_block, in_flow, in_pair, in_sequence, in_stream, indentless_sequence_entries, is_nested, IsNested, IsStream, key, leaves, List, no_flow_mapping_value, no_names, node, None, nothing_held, nothing_left, Open, open_after, Option, Part, Place, Raw, read, refl, Row, row_of, saying, says, show, Side, Some, StreamSays, Style, takes, then_in, there_and, Tok, true, value, with_child, Work, ◌∙◌, ◌∷◌, ◌≡◌, arith}
use Rattle.defs_event.specs.Table.{reading}
use Rattle.defs_event.proofs.Shaped.{shape_of, Shaped, named_shaped}
use Rattle.defs_event.proofs.NestedTest.{test_is_exact}

-- ---- what is open after work, or nothing where the work may not stand

-- after what comes after a key, or after a value
abbrev after_side : Side → List Open → Option (List Open)
after_side key (at_value ∷ os) = Some os
after_side value (at_key ∷ os) = Some os
after_side _ os = None

-- after what comes after a node there
abbrev after_place : Place → List Open → Option (List Open)
after_place (in_pair s) os = option_and_then (λ os. Some os) (after_side s os)
after_place _ os = Some os

abbrev after_node_at : Place → List Open → Option (List Open)
after_node_at p os = option_and_then (after_place p) (open_after (Ev.alias 0) os)

abbrev after_goal : Goal → List Open → Option (List Open)
after_goal documents (in_stream ∷ os) = Some os
after_goal directives (in_stream ∷ os) = Some os
after_goal explicit_document (in_stream ∷ os) = Some os
after_goal document_end (after_node ∷ in_stream ∷ os) = Some os
after_goal (node p) os = after_node_at p os
after_goal (after_anchor p) os = after_node_at p os
after_goal (after_tag p) os = after_node_at p os
after_goal (content p) os = after_node_at p os
after_goal block_sequence_entries (in_sequence ∷ os) = Some os
after_goal (indentless_sequence_entries s) (in_sequence ∷ os) = after_side s os
after_goal block_mapping_entries os = after_side value os
after_goal block_mapping_value os = after_side key os
after_goal flow_sequence_entries (in_sequence ∷ os) = Some os
after_goal flow_sequence_comma (in_sequence ∷ os) = Some os
after_goal (flow_mapping_entries s) (at_key ∷ os) = Some os
after_goal flow_mapping_comma (at_key ∷ os) = Some os
after_goal flow_mapping_value os = after_node_at in_flow os
after_goal flow_mapping_valued os = after_node_at in_flow os
after_goal no_flow_mapping_value (at_value ∷ os) = Some os
after_goal flow_value os = after_node_at in_flow os
after_goal _ os = None

abbrev after_work : Work Goal Raw Held → List Open → Option (List Open)
after_work (reading g h) os = after_goal g os
after_work (saying e) os = open_after (shape_of e) os

abbrev after_all : List (Work Goal Raw Held) → List Open → Option (List Open)
after_all [] os = Some os
after_all (x ∷ w) os = option_and_then (after_all w) (after_work x os)

-- ---- each row makes the same of what is open as its goal, where the goal may stand

abbrev parts_of : Row Goal Raw → List (Part Goal Raw)
parts_of (takes ps) = ps
parts_of (leaves ps) = ps

abbrev by_row : Option (Row Goal Raw) → Held → Tok → List Open → Option (List Open) → Option (List Open)
by_row None h t os other = other
by_row (Some r) h t os other = after_all (before grammar h t (parts_of r) []) os

then_too : (p : Place) (h : Held) (t : Tok) (os : List Open) → after_all (before grammar h t (then_in p) []) os ≡ after_place p os
then_too p h t os = grind arith

same : (x : Option (List Open)) → option_and x (option_and_then (λ os. Some os) x) ≡ x
same x = grind arith

-- a node, with what it opens
child : (c : Option Open) (inner os : List Open) (f k : List Open → Option (List Open))
    → ((o : Open) → option_and_then f (child_then (Some o) inner os) ≡ k (o ∷ os))
    → option_and (option_and_then k (child_then c [] os)) (option_and_then f (child_then c inner os)) ≡ option_and_then k (child_then c [] os)
child c inner os f k h = grind arith

-- A clause that names `key` has the checker look at each token there. The last clause with its pattern is for the others.
row_too : (g : Goal) (os : List Open) (t : Tok) (h : Held) → option_and (after_goal g os) (by_row (row_of (cases g) t) h t os (after_goal g os)) ≡ after_goal g os
row_too documents (in_stream ∷ os) Tok.key h = refl
row_too directives (in_stream ∷ os) Tok.key h = refl
row_too explicit_document (in_stream ∷ os) Tok.key h = refl
row_too document_end (after_node ∷ in_stream ∷ os) Tok.key h = refl
row_too (node p) (o ∷ os) (Tok.alias n) h = child (with_child o) _ os _ _ (λ o. then_too p h (Tok.alias n) (o ∷ os))
row_too (node p) os t h = same _
row_too (after_anchor p) os Tok.key h = same _
row_too (after_anchor p) os t h = same _
row_too (after_tag p) os Tok.key h = same _
row_too (after_tag p) os t h = same _
row_too (content in_flow) (o ∷ os) Tok.key h = child (with_child o) _ os _ _ (λ o. refl)
row_too (content in_block) (o ∷ os) Tok.key h = child (with_child o) _ os _ _ (λ o. refl)
row_too (content (in_pair s)) (o ∷ os) Tok.block_entry h = child (with_child o) _ os _ _ (λ o. refl)
row_too (content p) (o ∷ os) t h = child (with_child o) _ os _ _ (λ o. then_too p h t (o ∷ os))
row_too block_sequence_entries (in_sequence ∷ os) Tok.key h = refl
row_too (indentless_sequence_entries key) (in_sequence ∷ at_value ∷ os) Tok.key h = refl
row_too (indentless_sequence_entries value) (in_sequence ∷ at_key ∷ os) Tok.key h = refl
row_too block_mapping_entries (at_key ∷ os) Tok.key h = refl
row_too block_mapping_value (at_value ∷ os) Tok.key h = refl
row_too flow_sequence_entries (in_sequence ∷ os) Tok.key h = refl
row_too flow_sequence_comma (in_sequence ∷ os) Tok.key h = refl
row_too (flow_mapping_entries after_brace) (at_key ∷ os) Tok.key h = refl
row_too (flow_mapping_entries after_comma) (at_key ∷ os) Tok.key h = refl
row_too flow_mapping_comma (at_key ∷ os) Tok.key h = refl
row_too flow_mapping_value os Tok.value h = same _
row_too flow_mapping_value (o ∷ os) t h = child (with_child o) _ os _ _ (λ o. refl)
row_too flow_mapping_valued os (Tok.alias n) h = same _
row_too flow_mapping_valued os (Tok.anchor n) h = same _
row_too flow_mapping_valued os (Tok.tag x y) h = same _
row_too flow_mapping_valued os (Tok.scalar y x) h = same _
row_too flow_mapping_valued os Tok.flow_sequence_start h = same _
row_too flow_mapping_valued os Tok.flow_mapping_start h = same _
row_too flow_mapping_valued (o ∷ os) t h = child (with_child o) _ os _ _ (λ o. refl)
row_too no_flow_mapping_value (at_value ∷ os) t h = refl
row_too flow_value os Tok.value h = same _
row_too flow_value (o ∷ os) t h = child (with_child o) _ os _ _ (λ o. refl)
row_too g os t h = refl

-- ---- events with their names resolved

-- the event without anchor, tag and number
abbrev bare : Ev → Ev
bare (Ev.alias n) = Ev.alias 0
bare (Ev.scalar x s a t) = Ev.scalar x s 0 None
bare (Ev.sequence_start a t) = Ev.sequence_start 0 None
bare (Ev.mapping_start a t) = Ev.mapping_start 0 None
bare e = e

bare_opens : (e : Ev) (os : List Open) → open_after e os ≡ open_after (bare e) os
bare_opens e os = grind arith

-- the first event and those after it
first_opens : (e : Raw) (r : List Raw) (es : List Ev) → Shaped (e ∷ r) es
    → (v : Ev) × (vs : List Ev) × (es ≡ v ∷ vs) × ((os : List Open) → open_after v os ≡ open_after (shape_of e) os) × Shaped r vs
first_opens (Raw.alias n) r es x = (Ev.alias x.0, x.1, x.2, bare_opens (Ev.alias x.0), x.3)
first_opens (Raw.scalar u y a t) r es x = (Ev.scalar u y x.0 x.1, x.2, x.3, bare_opens (Ev.scalar u y x.0 x.1), x.4)
first_opens (Raw.empty_scalar a t) r es x = (Ev.scalar [] Style.plain x.0 x.1, x.2, x.3, bare_opens (Ev.scalar [] Style.plain x.0 x.1), x.4)
first_opens (Raw.flow_sequence_start a t) r es x = (Ev.sequence_start x.0 x.1, x.2, x.3, bare_opens (Ev.sequence_start x.0 x.1), x.4)
first_opens (Raw.sequence_start a t) r es x = (Ev.sequence_start x.0 x.1, x.2, x.3, bare_opens (Ev.sequence_start x.0 x.1), x.4)
first_opens (Raw.indentless_sequence_start a t) r es x = (Ev.sequence_start x.0 x.1, x.2, x.3, bare_opens (Ev.sequence_start x.0 x.1), x.4)
first_opens (Raw.flow_mapping_start a t) r es x = (Ev.mapping_start x.0 x.1, x.2, x.3, bare_opens (Ev.mapping_start x.0 x.1), x.4)
first_opens (Raw.mapping_start a t) r es x = (Ev.mapping_start x.0 x.1, x.2, x.3, bare_opens (Ev.mapping_start x.0 x.1), x.4)
first_opens e r es x = (shape_of e, x.0, x.1, (λ os. refl), x.2)

-- ---- derived events close what is open

over : (h : Held) (t : Tok) (ps : List (Part Goal Raw)) (w : List (Work Goal Raw Held)) (o : Option (List Open))
    → option_and_then (after_all (before grammar h t ps w)) o ≡ option_and_then (after_all w) (option_and_then (after_all (before grammar h t ps [])) o)
over h t ps w None = refl
over h t [] w o = refl
over h t (p ∷ ps) w (Some os) = over h t ps w _

-- A row's parts stand where its goal stands, and leave as much to close.
goal_parts : (g : Goal) (h : Held) (t : Tok) (r : Row Goal Raw) (w : List (Work Goal Raw Held)) (os new : List Open) → row_of (cases g) t ≡ Some r
    → (x : Option (List Open)) → after_goal g os ≡ x → option_and_then (after_all w) x ≡ Some new → after_all (before grammar h t (parts_of r) w) os ≡ Some new
goal_parts g h t r w os new p x q e = grind (arith, row_too g os t h, over h t (parts_of r) w (Some os))

then_closes : (f : List Open → Option (List Open)) (test : List Open → Bool) → ((os : List Open) → f os ≡ Some [] → test os ≡ true) → (x : Option (List Open))
    → option_and_then f x ≡ Some [] → there_and test x ≡ true
then_closes f test k x h = grind arith

derived_closes : (w : List (Work Goal Raw Held)) (ts : List Tok) (es : List Raw) → Derives grammar w ts es → (vs : List Ev) → Shaped es vs → (os : List Open)
    → after_all w os ≡ Some [] → closes vs os ≡ true
derived_closes [] [] _ nothing_left vs x [] e = ap (λ l. closes l []) x
derived_closes [] [] _ nothing_left vs x (o ∷ os) e = cc
derived_closes [] (t ∷ ts) es d vs x os e = elim d [ ]
derived_closes (saying e ∷ w) ts _ (says {es = es} d) vs x os h =
    let y = first_opens e es vs x in
    ap (λ l. closes l os) y.2 ∙ ap (there_and (closes y.1)) (y.3 os)
    ∙ then_closes (after_all w) (closes y.1) (derived_closes w ts es d y.1 y.4) (open_after (shape_of e) os) h
derived_closes (reading g h ∷ w) [] es d vs x os e = elim d [ ]
derived_closes (reading g h ∷ w) (t ∷ ts) es (by_taking ps p d) vs x os e =
    derived_closes (before grammar h t ps w) ts es d vs x os (goal_parts g h t (takes ps) w os [] p (after_goal g os) refl e)
derived_closes (reading g h ∷ w) (t ∷ ts) es (by_leaving ps p d) vs x os e =
    derived_closes (before grammar h t ps w) (t ∷ ts) es d vs x os (goal_parts g h t (leaves ps) w os [] p (after_goal g os) refl e)

said_start : (ts : List Tok) (raws : List Raw) (events : List Ev) → Derives grammar (saying Raw.stream_start ∷ reading documents nothing_held ∷ []) ts raws
    → Shaped raws events → is_nested events ≡ true
said_start ts _ events (says {es = es} d) x = ap is_nested x.1 ∙ derived_closes (reading documents nothing_held ∷ []) ts es d x.0 x.2 (in_stream ∷ []) refl

passes : (tokens : List Tok) (raws : List Raw) (events : List Ev) → StreamSays tokens raws → Shaped raws events → is_nested events ≡ true
passes [] raws events d x = elim d [ ]
passes (Tok.stream_start ∷ ts) raws events (by_taking ps p d) x =
    let e : ps ≡ show ∷ read documents ∷ [] = cc in said_start ts raws events (rw e at d) x
passes (t ∷ ts) raws events (by_taking ps p d) x = let none : None ≡ Some (takes ps) = p in cc
passes (Tok.stream_start ∷ ts) raws events (by_leaving ps p d) x = let other : Some (takes (show ∷ read documents ∷ [])) ≡ Some (leaves ps) = p in cc
passes (t ∷ ts) raws events (by_leaving ps p d) x = let none : None ≡ Some (leaves ps) = p in cc

pub shaped_nests : (tokens : List Tok) (raws : List Raw) (events : List Ev) → StreamSays tokens raws → Shaped raws events → IsNested events
shaped_nests tokens raws events d x = (test_is_exact events).0 (passes tokens raws events d x)

pub stream_nests : (keep_tags : Bool) (tokens : List Tok) (events : List Ev) → IsStream keep_tags tokens events → IsNested events
stream_nests keep_tags tokens events x = shaped_nests tokens x.raws events x.says (named_shaped keep_tags no_names x.raws events x.has_events)
