-- What work reads and says by the table of the token grammar, where the names of its events are resolved.
use Rattle.proof_layouts.proofs.Common.{arith, [], after_anchor, before, Bool, by_leaving, by_taking, cases, content, Derives, Ev, Goal, grammar, Held, in_block, in_pair, IsStream, keep, leaves, List, named, Names, names_after, no_names, node, None, nothing_held, nothing_left, number, Option, Part, Place, Raw, read, refl, resolved_event, Row, row_of, say, saying, says, Side, Some, Style, subst, takes, then_in, Tok, under_name, whole_stream, with_anchor, Work, ℕ, ◌∷◌, ◌≡◌}
use Rattle.defs_event.specs.Table.{reading}
use Rattle.defs_event.specs.Grammar as at

abbrev pub Works : Type 0
Works = List (Work Goal Raw Held)

-- a goal that holds nothing, before other work
abbrev pub goal_and : Goal → Works → Works
goal_and g w = reading g nothing_held ∷ w

-- This work reads these tokens, all of them, and says these events, by the names before it.
pub record Says (keep_tags : Bool) (s : Names) (w : Works) (ts : List Tok) (es : List Ev) : Type 0 where
  pub raws : List Raw
  pub derived : Derives grammar w ts raws
  pub names : named keep_tags s raws ≡ Some es

-- The work `from` before some tokens says what the work `to` after them says, and `more` events; the names s become u.
abbrev pub Goes : (keep_tags : Bool) (s u : Names) (from to : Works → Works) (before after : List Tok → List Tok)
    (more : List Ev → List Ev) → Type 0
Goes keep_tags s u from to before after more =
    (w : Works) (r : List Tok) (es : List Ev) → Says keep_tags u (to w) (after r) es → Says keep_tags s (from w) (before r) (more es)

-- ---- one row, one event

pub taken : {keep_tags : Bool} {s : Names} {g : Goal} {h : Held} {w : Works} {t : Tok} {ts : List Tok} {es : List Ev} (ps : List (Part Goal Raw))
    → row_of (cases g) t ≡ Some (takes ps) → Says keep_tags s (before grammar h t ps w) ts es → Says keep_tags s (reading g h ∷ w) (t ∷ ts) es
taken ps row x = record { raws = x.raws; derived = by_taking ps row x.derived; names = x.names }

pub left : {keep_tags : Bool} {s : Names} {g : Goal} {h : Held} {w : Works} {t : Tok} {ts : List Tok} {es : List Ev} (ps : List (Part Goal Raw))
    → row_of (cases g) t ≡ Some (leaves ps) → Says keep_tags s (before grammar h t ps w) (t ∷ ts) es → Says keep_tags s (reading g h ∷ w) (t ∷ ts) es
left ps row x = record { raws = x.raws; derived = by_leaving ps row x.derived; names = x.names }

pub said : {keep_tags : Bool} {s : Names} {e : Ev} {w : Works} {ts : List Tok} {es : List Ev} (raw : Raw) → resolved_event s raw ≡ Some e
    → Says keep_tags (names_after keep_tags s raw) w ts es → Says keep_tags s (saying raw ∷ w) ts (e ∷ es)
said raw resolved x = record { raws = raw ∷ x.raws; derived = says x.derived; names = rw (resolved, x.names) refl }

-- ---- nodes; o is the name of an anchor before the node, or nothing

-- what comes after a node at a place, before other work
abbrev pub behind : Place → Works → Works
behind (in_pair at.key) w = goal_and at.block_mapping_value w
behind (in_pair at.value) w = goal_and at.block_mapping_entries w
behind _ w = w

then_behind : (p : Place) (h : Held) (t : Tok) (w : Works) → before grammar h t (then_in p) w ≡ behind p w
then_behind p h t w = grind arith

abbrev pub held : Option (List ℕ) → Held
held o = record { anchor = o; tag = None; directives = [] }

abbrev node_goal : Option (List ℕ) → Place → Goal
node_goal None p = node p
node_goal (Some name) p = after_anchor p

-- a node after its anchor, or without one
abbrev pub node_and : Option (List ℕ) → Place → Works → Works
node_and o p w = reading (node_goal o p) (held o) ∷ w

-- A token that is no property: a content begins.
content_begins : {keep_tags : Bool} {s : Names} {w : Works} {t : Tok} {ts : List Tok} {es : List Ev} (o : Option (List ℕ)) (p : Place)
    → row_of (cases (node p)) t ≡ Some (leaves (keep (content p) ∷ [])) → row_of (cases (after_anchor p)) t ≡ Some (leaves (keep (content p) ∷ []))
    → Says keep_tags s (reading (content p) (held o) ∷ w) (t ∷ ts) es → Says keep_tags s (node_and o p w) (t ∷ ts) es
content_begins None p alone anchored x = left _ alone x
content_begins (Some name) p alone anchored x = left _ anchored x

pub scalar : {keep_tags : Bool} {s : Names} {w : Works} {ts : List Tok} {es : List Ev} (o : Option (List ℕ)) (p : Place) (style : Style) (text : List ℕ)
    → Says keep_tags (with_anchor s o) (behind p w) ts es → Says keep_tags s (node_and o p w) (Tok.scalar style text ∷ ts)
    (Ev.scalar text style (number s o) None ∷ es)
scalar o p style text x =
    content_begins o p refl refl (taken _ refl (said _ refl (rw (then_behind p (held o) (Tok.scalar style text) _) x)))

pub flow_sequence : {keep_tags : Bool} {s : Names} {w : Works} {ts : List Tok} {es : List Ev} (o : Option (List ℕ)) (p : Place)
    → Says keep_tags (with_anchor s o) (goal_and at.flow_sequence_entries (behind p w)) ts es
    → Says keep_tags s (node_and o p w) (Tok.flow_sequence_start ∷ ts) (Ev.sequence_start (number s o) None ∷ es)
flow_sequence o p x =
    content_begins o p refl refl (taken _ refl (said _ refl (rw (then_behind p (held o) Tok.flow_sequence_start _) x)))

pub flow_mapping : {keep_tags : Bool} {s : Names} {w : Works} {ts : List Tok} {es : List Ev} (o : Option (List ℕ)) (p : Place)
    → Says keep_tags (with_anchor s o) (goal_and (at.flow_mapping_entries at.after_brace) (behind p w)) ts es
    → Says keep_tags s (node_and o p w) (Tok.flow_mapping_start ∷ ts) (Ev.mapping_start (number s o) None ∷ es)
flow_mapping o p x =
    content_begins o p refl refl (taken _ refl (said _ refl (rw (then_behind p (held o) Tok.flow_mapping_start _) x)))

pub alias : {keep_tags : Bool} {s : Names} {w : Works} {ts : List Tok} {es : List Ev} (p : Place) (name : List ℕ) (number : ℕ)
    → under_name name s.anchors ≡ Some number
    → Says keep_tags s (behind p w) ts es → Says keep_tags s (node_and None p w) (Tok.alias name ∷ ts) (Ev.alias number ∷ es)
alias p name number named x = taken _ refl (said _ (rw named refl) (rw (then_behind p (held None) (Tok.alias name) _) x))

-- the places outside flow
abbrev pub outside : Option Side → Place
outside None = in_block
outside (Some side) = in_pair side

pub block_sequence : {keep_tags : Bool} {s : Names} {w : Works} {ts : List Tok} {es : List Ev} (o : Option (List ℕ)) (q : Option Side)
    → Says keep_tags (with_anchor s o) (goal_and at.block_sequence_entries (behind (outside q) w)) ts es
    → Says keep_tags s (node_and o (outside q) w) (Tok.block_sequence_start ∷ ts) (Ev.sequence_start (number s o) None ∷ es)
block_sequence o None x = content_begins o in_block refl refl (taken _ refl (said _ refl x))
block_sequence o (Some side) x =
    content_begins o (in_pair side) refl refl (taken _ refl (said _ refl (rw (then_behind (in_pair side) (held o) Tok.block_sequence_start _) x)))

pub block_mapping : {keep_tags : Bool} {s : Names} {w : Works} {ts : List Tok} {es : List Ev} (o : Option (List ℕ)) (q : Option Side)
    → Says keep_tags (with_anchor s o) (goal_and at.block_mapping_entries (behind (outside q) w)) ts es
    → Says keep_tags s (node_and o (outside q) w) (Tok.block_mapping_start ∷ ts) (Ev.mapping_start (number s o) None ∷ es)
block_mapping o None x = content_begins o in_block refl refl (taken _ refl (said _ refl x))
block_mapping o (Some side) x =
    content_begins o (in_pair side) refl refl (taken _ refl (said _ refl (rw (then_behind (in_pair side) (held o) Tok.block_mapping_start _) x)))

-- A sequence without indentation begins with an entry.
entry_taken : (side : Side) (w : Works) (ts : List Tok) (raws : List Raw) → Derives grammar (goal_and (at.indentless_sequence_entries side) w) (Tok.block_entry ∷ ts) raws
    → Derives grammar (goal_and (node in_block) (goal_and (at.indentless_sequence_entries side) w)) ts raws
entry_taken side w ts raws (by_taking ps row d) =
    let same : ps ≡ read (node in_block) ∷ read (at.indentless_sequence_entries side) ∷ [] = cc row in rw same at d
entry_taken side w ts raws (by_leaving ps row d) = cc

pub indentless_sequence : {keep_tags : Bool} {s : Names} {w : Works} {ts : List Tok} {es : List Ev} (side : Side)
    → Says keep_tags s (goal_and (at.indentless_sequence_entries side) w) (Tok.block_entry ∷ ts) es
    → Says keep_tags s (node_and None (in_pair side) w) (Tok.block_entry ∷ ts) (Ev.sequence_start 0 None ∷ es)
indentless_sequence {w = w} {ts = ts} side x =
    left _ refl (taken _ refl (said _ refl (record { raws = x.raws; derived = entry_taken side w ts x.raws x.derived; names = x.names })))

-- It ends where the mapping goes on: no entry stands there.
no_entry : (t : Tok) (r : Row Goal Raw) → row_of (cases at.block_mapping_entries) t ≡ Some r
    → row_of (cases (at.indentless_sequence_entries at.value)) t ≡ Some (leaves (say Raw.indentless_sequence_end ∷ read at.block_mapping_entries ∷ []))
no_entry t r h = grind arith

entries_left : (w : Works) (ts : List Tok) (raws : List Raw) → Derives grammar (goal_and at.block_mapping_entries w) ts raws
    → Derives grammar (goal_and (at.indentless_sequence_entries at.value) w) ts (Raw.indentless_sequence_end ∷ raws)
entries_left w _ raws (by_taking {t = t} ps row d) = by_leaving _ (no_entry t (takes ps) row) (says (by_taking ps row d))
entries_left w _ raws (by_leaving {t = t} ps row d) = by_leaving _ (no_entry t (leaves ps) row) (says (by_leaving ps row d))

pub entries_end : {keep_tags : Bool} {s : Names} {w : Works} {ts : List Tok} {es : List Ev} → Says keep_tags s (goal_and at.block_mapping_entries w) ts es
    → Says keep_tags s (goal_and (at.indentless_sequence_entries at.value) w) ts (Ev.sequence_end ∷ es)
entries_end {w = w} {ts = ts} x = record { raws = Raw.indentless_sequence_end ∷ x.raws; derived = entries_left w ts x.raws x.derived; names = rw x.names refl }

-- ---- the stream

-- after the last document's node
pub stream_ends : {keep_tags : Bool} {s : Names} → Says keep_tags s (goal_and at.document_end []) (Tok.stream_end ∷ []) (Ev.document_end ∷ Ev.stream_end ∷ [])
stream_ends = left _ refl (said _ refl (taken _ refl (said _ refl (record { raws = []; derived = nothing_left; names = refl }))))

pub stream_said : {keep_tags : Bool} {ts : List Tok} {es : List Ev} → Says keep_tags no_names whole_stream ts es → IsStream keep_tags ts es
stream_said x = record { raws = x.raws; says = x.derived; has_events = x.names }
