-- Texts that are read from a place on: how they begin with a separation and a piece, outside flow and in flow.
use Rattle.proof_loads.proofs.Common.{[], act_of, and_parts, another, arith, awaits_at, awaits_past, begins_free_line, begins_line, begun_by, Bool, Entry, false, filled, flow_mapping_end, flow_mapping_start, flow_sequence_end, flow_sequence_start, FlowKind, free, fresh, further_lines_stand, gives_node, Had, has_break, has_no_break, has_tab_within, if◌then◌else◌, is_break, is_deeper, is_empty, is_in_flow, is_indented_by_spaces, is_marker, is_renewed, is_separation, is_waiting, IsShown, last_line, le-ltb, least_column, least_for, length, line_past, line_past_separation, List, mapping, may_precede, nat_le, ne_eqb, no_pair, not, not-true, not_ended, Option, Position, position_after, position_past, Previous, previous_by, refl, sequence, settled, Site, Some, Step, taken, Tok, toks, true, ℕ, ◌++◌, ◌-◌, ◌∷◌, ◌≡◌, ◌≤◌, entries_past, takes_pair, begun_inside, begun_outside, or_true}
pub use Rattle.proof_loads.proofs.HasRows.Steps.{Line, at, ended, has_tokens, read_end, Reads, site_of, step, step_of, Steps}
pub use Rattle.proof_loads.proofs.Nul.{both, HasNone, of_class, quoted_none, text_none}

-- ---- columns

-- a position deeper than the innermost block collection
abbrev pub IsDeep : List ℕ → Position → Type 0
IsDeep bs p = least_column bs true ≤ p.col

pub low : (bs : List ℕ) (awaits : Bool) (n : ℕ) → least_column bs true ≤ n → nat_le (least_column bs awaits) n ≡ true
low a b n h = grind arith

pub none_ends : (bs : List ℕ) (n : ℕ) → least_column bs true ≤ n → not_ended n bs ≡ bs
none_ends a n h = grind (arith, le-ltb)

pub deeper : (bs : List ℕ) (n : ℕ) → least_column bs true ≤ n → is_deeper n bs ≡ true
deeper a n h = grind arith

pub deep_char : (bs : List ℕ) (p : Position) (c : ℕ) (next : List ℕ) → (is_empty bs ≡ false → is_break c ≡ false) → IsDeep bs p → IsDeep bs (position_past p c next)
deep_char a p c b h deep = grind arith

-- after a piece on one line
pub deep_piece : (bs w next : List ℕ) → has_no_break w ≡ true → (p : Position) → IsDeep bs p → IsDeep bs (position_after p w next)
deep_piece bs [] next h p deep = deep
deep_piece bs (c ∷ w) next h p deep = grind (arith, and_parts, not-true, deep_char, deep_piece bs w next)

-- ---- separations

-- A text is a separation and a rest: no TAB indents the rest's line, and the rest is deep where the text is.
pub record Parts (bs text rest : List ℕ) : Type 0 where
  pub by : List ℕ
  pub is : text ≡ by ++ rest
  pub separates : is_separation false by rest ≡ true
  pub tabless : (awaits : Bool) → has_tab_within (least_column bs awaits) (last_line by) ≡ false
  pub deep : (p : Position) → IsDeep bs p → IsDeep bs (position_after p by rest)
  pub none : HasNone by

pub indented : (before : Previous) (bs : List ℕ) (awaits : Bool) {text rest : List ℕ} (parts : Parts bs text rest) → is_indented_by_spaces before bs awaits parts.by ≡ true
indented before bs awaits parts = rw (parts.tabless) (or_true (not (begins_line before parts.by)))

-- what is no directive: a break after it begins a line
abbrev pub Quiet : Previous → Type 0
Quiet before = (f : List ℕ) → begins_free_line before f ≡ has_break f

-- ---- entries of flow collections

abbrev pub kind_of : (is_object : Bool) → FlowKind
kind_of b = if b then mapping else sequence

-- an entry without a single pair; one that awaits a value, and one that has had it
abbrev pub entry_of : (is_object : Bool) → Had → Entry
entry_of b h = record { kind = kind_of b; pair = no_pair; had = h }

abbrev pub awaiting : (is_object : Bool) → Entry
awaiting b = entry_of b (if b then settled else fresh)

abbrev pub filled_by : (is_object : Bool) → Entry
filled_by b = entry_of b (if b then settled else filled)

-- the brackets of an object and an array
abbrev pub opening : (is_object : Bool) → Tok
opening b = if b then flow_mapping_start else flow_sequence_start

abbrev pub closing : (is_object : Bool) → Tok
closing b = if b then flow_mapping_end else flow_sequence_end

abbrev pub opening_bracket : (is_object : Bool) → ℕ
opening_bracket b = if b then 123 else 91

abbrev pub closing_bracket : (is_object : Bool) → ℕ
closing_bracket b = if b then 125 else 93

-- ---- what is read

-- wherever it is deep enough and no key waits, a text is read after such a piece
abbrev pub From : Previous → (blocks : List ℕ) → List Entry → (text : List ℕ) → List Tok → Type 0
From before bs es text tokens = (p : Position) (awaits : Bool) (l : Line) → is_waiting l ≡ false → IsDeep bs p → Reads (at p bs awaits before l es) text tokens

-- so it is after a value
abbrev pub Then : (blocks : List ℕ) → List Entry → (text : List ℕ) → List Tok → Type 0
Then bs es text tokens = (before : Previous) → Quiet before → From before bs es text tokens

-- what a step says of its piece, wherever that is deep enough
abbrev pub Shown : Previous → (blocks : List ℕ) → List Entry → Step → (next : List ℕ) → Type 0
Shown before bs es w next =
    (p : Position) (awaits : Bool) (l : Line) → IsDeep bs (position_after p w.separation (w.piece ++ next))
    → IsShown (at p bs awaits before l es) (site_of (at p bs awaits before l es) w next) w next

pub same_line : (broken : Bool) (l : Line) → is_waiting l ≡ false → line_past_separation true broken l ≡ Some l
same_line a l h = grind arith

outside_line : (broken : Bool) (l : Line) → is_waiting l ≡ false → (m : Line) × (line_past_separation false broken l ≡ Some m) × (is_waiting m ≡ false)
outside_line false l h = (l, refl, h)
outside_line true (Line.waits begin) h = cc
outside_line true l h = (free, refl, refl)

-- outside flow, or in an entry of an array or an object
pub data Place : Type 0 where
  outside : Place
  within : (is_object : Bool) → (around : List Entry) → Place

abbrev pub entries_before : Place → List Entry
entries_before outside = []
entries_before (within b es) = awaiting b ∷ es

abbrev pub entries_after : Place → (begun : List Entry) → List Entry
entries_after outside begun = begun
entries_after (within b es) begun = begun ++ filled_by b ∷ es

abbrev pub flows : Place → Bool
flows pl = is_in_flow (entries_before pl)

module _ (bs w : List ℕ) (t : Tok) (text next : List ℕ) (tokens : List Tok) (parts : Parts bs text (w ++ next)) (none : HasNone w) where
  abbrev Over : Type 0
  Over = (p : Position) → IsDeep bs p → IsDeep bs (position_after p w next)

  abbrev Further : Type 0
  Further = (s : Site) → s.blocks ≡ bs → further_lines_stand (least_for t s) t w ≡ true

  -- a piece in an entry of a flow collection
  pub flow_reads : Over → Further → (before : Previous) (e : Entry) (es : List Entry) (after : Position → List Entry) (key : Bool) (first : List Tok) → is_marker (act_of t) ≡ false → Shown before bs (e ∷ es) (step_of parts.by w t key) next → may_precede true bs t w next ≡ true
      → ((here : Position) → entries_past here (is_renewed before parts.by) (act_of t) (begun_by t) key e es ≡ Some (after here))
      → ((here colon own : Position) → toks (begun_inside (takes_pair e.kind e.pair) e.pair here colon own (act_of t) key e.had) ≡ first)
      → ((here : Position) → From (previous_by t) bs (after here) next tokens) → From before bs (e ∷ es) text (first ++ t ∷ tokens)
  flow_reads over further before e es after key first no_marker shown precede past begins rest p awaits l line deep =
      let w' = step_of parts.by w t key in
      let here = position_after p parts.by (w ++ next) in
      let there = parts.deep p deep in
      let a = at p bs awaits before l (e ∷ es) in
      let low_for : nat_le (least_for t (site_of a w' next)) here.col ≡ true = grind (arith, low) in
      let fits = further (site_of a w' next) refl in
      let s : Steps a w' next (at (position_after here w next) bs (awaits_past true t bs awaits next) (previous_by t) l (after here)) first =
      grind (arith, indented before bs awaits parts, same_line, shown p awaits l there, past, begins) in
      rw (parts.is) (step w' next s (rest here _ _ l line (over here there)))

  -- a piece outside flow that begins no block collection
  pub outside_reads : Further → (after : Line) → is_waiting after ≡ false → is_marker (act_of t) ≡ false → Shown another bs [] (step_of parts.by w t false) next → may_precede false bs t w next ≡ true
      → ((must : Bool) (here : Position) (l : Line) → must ≡ false → is_waiting l ≡ false → line_past must here bs (act_of t) false l ≡ Some (record { line = after; blocks = bs }))
      → ((deeper : Bool) (here colon : Position) (l : Option Line) → begun_outside deeper here colon (act_of t) false l ≡ [])
      → ((here : Position) (awaits : Bool) → IsDeep bs here → Reads (at (position_after here w next) bs awaits (previous_by t) after (begun_by t)) next tokens)
      → From another bs [] text (t ∷ tokens)
  outside_reads further after quiet no_marker shown precede leads begins rest p awaits l line deep =
      let w' = step_of parts.by w t false in
      let here = position_after p parts.by (w ++ next) in
      let there = parts.deep p deep in
      let a = at p bs awaits another l [] in
      let m = outside_line (has_break parts.by) l line in
      let fits = further (site_of a w' next) (rw (no_marker, none_ends bs here.col there) refl) in
      let waits = awaits_past false t bs (awaits_at false here.col bs awaits) next in
      let no_less : length bs - length bs ≡ 0 = omega arith in
      let s : Steps a w' next (at (position_after here w next) bs waits (previous_by t) after (begun_by t)) [] =
      grind (arith, indented another bs awaits parts, none_ends, ne_eqb, shown p awaits l there, leads, begins, m) in
      rw (parts.is) (step w' next s (rest here waits there))

  -- a node outside flow
  pub node_reads : Over → Further → act_of t ≡ gives_node → Shown another bs [] (step_of parts.by w t false) next → may_precede false bs t w next ≡ true
      → From (previous_by t) bs (begun_by t) next tokens → From another bs [] text (t ∷ tokens)
  node_reads over further node shown precede rest =
      outside_reads further taken refl (rw node refl) shown precede (λ must here l no line. rw node (grind arith)) (λ deeper here colon l. rw node refl) (λ here waits there. rest _ waits taken refl (over here there))

  -- a node at a place
  pub place_reads : (pl : Place) → Over → Further → act_of t ≡ gives_node → Shown another bs (entries_before pl) (step_of parts.by w t false) next → may_precede (flows pl) bs t w next ≡ true
      → From (previous_by t) bs (entries_after pl (begun_by t)) next tokens → From another bs (entries_before pl) text (t ∷ tokens)
  place_reads outside over further node shown precede rest = node_reads over further node shown precede rest
  place_reads (within b es) over further node shown precede rest =
      flow_reads over further another (awaiting b) es (λ here. begun_by t ++ filled_by b ∷ es) false [] (rw node refl) shown precede (λ here. rw node (grind arith)) (λ here colon own. rw node refl) (λ here. rest)
