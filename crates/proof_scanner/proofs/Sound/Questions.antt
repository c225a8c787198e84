-- The function of the model that reads a dash: what holds where it begins holds between two fetches after it.
use Rattle.proof_scanner.proofs.Common.{BlockEntryInFlow, BlockEntryNotAllowed, TabAfterKey, before_by, [], weakened, allow_key, another, ap, AreLevels, arith, Arrives, At, begin_key, begins_with_space_or_break, blanks_and_comment, both_hold, check_block_entry, check_dash, check_key_space, checked, columns, dash_may_precede, Entry, eqb-true, false, Fault, fetch_block_entry, fetch_key, FlowLevel, gap, gives_question, has_break, has_open_level, has_tab_before_piece, Held, Holds, in_flow, Indent, is_at_break_or_flow, is_at_gap, is_break, is_empty, is_one_of, is_separation, Key, Keyed, keyed, lexed, List, No, None, not, not-false, Ok, on_held, opened, Option, or_parts, or_true, pair_past, past, peek, Position, position_after, push, refl, remove_implicit_key, Result, roll_entry, roll_indent, same_break, ScannerState, settled, Site, skip_indicator, skip_spaces, skip_yaml_whitespace, space, subst, suc, sym, take, takes_pair, Tok, token, top_needs_block_end, true, try_held, went, Yes, ℕ, ◌==◌, ◌>>=◌, ◌∙◌, ◌∷◌, ◌≡◌, ◌≤◌, refused, append_assoc, append_assoc, append-nil, append-nil}
use Rattle.yaml_chars.specs.Class.{is_break as is_break_here, is_flow as is_flow_here}
use Rattle.model_scanner.specs.State.{after, after as after_first}
use Rattle.proof_lexers.proofs.Bridges.{same_flow}
use Rattle.proof_scanner.proofs.Sound.Steps.{exactly, held_exactly, ArrivesBy, IsDeep, Onward, Reads, RollsTo, adjacent_kept, begins_here, begun_after, by_sides, entry_from, first_not_right, gap_here, goes_inside, indicator_end, key_removed, line_free, line_rest_cut, line_rest_fills, line_rest_in_line, low_enough, none_skipped, opens_level, past_indicator, past_rest, past_rest_is_clear, read_outside, reads_before_none, rest_read, rolls_to, tokens_before, top_closed, with_sides, with_start}
use Rattle.model_scanner.specs.declared.level.FlowLevel.TheVariants.{Entry as InEntry}
use Rattle.proof_scanner.proofs.Sound.WhiteSpaces.{no_tab_before, no_tab_in_last, past_white, past_white_space, white_cut, white_exactly, white_first, white_of}

-- ---- what the model checks

-- an entry stands outside flow, where a key may begin
pub entry_checked : (s : Held) → Holds (λ u. (u ≡ s) × ((in_flow s ≡ false) × (s.key_allowed ≡ true))) (check_block_entry s)
unfolding check_block_entry
entry_checked s = checked (in_flow s) (At BlockEntryInFlow s.position) (λ e. checked (not s.key_allowed) (At BlockEntryNotAllowed s.position) (λ f. went (refl, (e, not-false s.key_allowed f))))

-- ---- the levels of indentation after it

-- Where the line ends, or a flow indicator stands, a level that opens no collection stands for the entry's value.
pub record Entered (w u : ScannerState) : Type 0 where
  pub indents : List Indent
  pub indent : ℕ
  pub is : u ≡ record w { held = record w.held { indents = indents; indent = indent } }
  pub columns_are : columns indent indents ≡ columns w.held.indent w.held.indents
  pub are_levels : AreLevels indent indents
  pub awaits : has_open_level indents ≡ is_at_break_or_flow w.rest

pub entered : (w : ScannerState) → in_flow w.held ≡ false → AreLevels w.held.indent w.held.indents → top_needs_block_end w.held.indents ≡ true → Entered w (roll_entry w)
unfolding roll_entry is_break_here is_flow_here
entered w out levels top = grind (arith, same_break, same_flow, opens_level, top_closed)

-- ---- the step

-- what the model does after the dash, the start of a sequence, and blanks and a comment
abbrev pub entry_then : ScannerState → Result ScannerState Fault
entry_then x = try_held remove_implicit_key (roll_entry x) >>= λ y. Ok (on_held (λ s. push s.position Tok.block_entry (allow_key true s)) y)

dash_outside : (text more : List ℕ) (t : ScannerState) → ArrivesBy text (with_sides t [] (None ∷ [])) [] (None ∷ []) [] → t.rest ≡ 45 ∷ more →
    is_at_gap more ≡ true → t.held.key_allowed ≡ true → IsDeep t.held →
    Holds (Onward text t.rest) (entry_from (with_sides t [] (None ∷ [])) (with_sides t [] (None ∷ [])))
unfolding is_break check_dash
dash_outside text more t a e gap allowed deep =
    subst (λ (w : ScannerState). Holds (Onward text t.rest) (lexed (space Yes w.rest w.held.position) w.held check_dash >>= λ x. skip_spaces No x >>= entry_then))
    (sym (ap (λ x. record { rest = after_first x; held = roll_indent p.col None Tok.block_sequence_start p h }) e ∙ ap (λ x. record { rest = more; held = x }) r.is_held))
    (exactly {C = dash_may_precede more ≡ true} _ (rest_read v check_dash _ (λ _. grind (arith, checked, went, eqb-true, gap_here))) (λ apart.
    subst (λ x. Holds (Onward text t.rest) (x >>= entry_then)) (sym (none_skipped (past_rest v) (past_rest_is_clear more))) (last apart)))
  where
    p : Position
    p = t.held.position

    h : Held
    h = (skip_indicator (with_sides t [] (None ∷ []))).held

    r : RollsTo p.col None (token p Tok.block_sequence_start) h (roll_indent p.col None Tok.block_sequence_start p h)
    r = rolls_to p.col None Tok.block_sequence_start p h refl a.are_levels (first_not_right p.col t.held.indent t.held.indents a.are_levels deep)

    v : ScannerState
    v = record { rest = more; held = record h { indents = r.indents; indent = r.indent; tokens = with_start Tok.block_sequence_start t } }

    last : dash_may_precede more ≡ true → Holds (Onward text t.rest) (entry_then (past_rest v))
    last apart =
        let n : Entered (past_rest v) (roll_entry (past_rest v)) = entered (past_rest v) refl r.are_levels (r.is_top deep) in
        exactly _ (held_exactly (roll_entry (past_rest v)) (key_removed (roll_entry (past_rest v)).held)) (λ _. went
        (rw n.is
        (read_outside text (with_sides t [] (None ∷ [])) _ a (45 ∷ []) more (blanks_and_comment more) Tok.block_entry (begun_after p a.site.blocks) _ refl
        (reads_before_none (with_sides t [] (None ∷ [])) _ _ (45 ∷ []) more (blanks_and_comment more) refl e (line_rest_cut more) (line_rest_fills more)
        (line_rest_in_line more) refl (indicator_end p 45 more refl) refl refl (ap (opened p.col) a.blocks_are ∙ sym (n.columns_are ∙ r.columns_are)) (sym n.awaits)
        n.are_levels a.was_adjacent (refl, refl, refl))
        (grind arith) (grind (arith, append_assoc, append-nil, past_indicator, line_free, a.is_indented (ap is_empty e))))))

-- A dash that begins an entry is read as in the row.
pub dash_keeps : (text more : List ℕ) (t : ScannerState) → Arrives text t → t.rest ≡ 45 ∷ more → is_at_gap more ≡ true → IsDeep t.held → Holds (Onward text t.rest) (fetch_block_entry t)
unfolding fetch_block_entry check_block_entry
dash_keeps text more t a e gap deep =
    by_sides text t (λ v. Holds (Onward text v.rest) (fetch_block_entry v)) a (λ k x n. exactly _ (held_exactly (with_sides t [] (k ∷ [])) (entry_checked (with_sides t [] (k ∷ [])).held)) (λ d. grind (arith, dash_outside text more t)))
    (λ f fs k ks y es x. refused)

-- ---- the function of the model that reads a `?`: what holds where it begins holds between two fetches after it

no_tab_taken : (n : ℕ) (l : List ℕ) → is_one_of l 9 ≡ false → is_one_of (take n l) 9 ≡ false
no_tab_taken (suc n) (c ∷ l) h = let q = or_parts (9 == c) (is_one_of l 9) h in rw (q.0, no_tab_taken n l q.1) refl
no_tab_taken n l h = grind arith

-- no TAB stands there
space_checked : (more : List ℕ) (t : ScannerState) → t.rest ≡ past_white false more → Holds (λ u. (u ≡ t) × (has_tab_before_piece false more ≡ false)) (check_key_space t)
unfolding check_key_space
space_checked more t e = checked (peek t.rest == 9) (At TabAfterKey t.held.position) (λ h. went (refl, no_tab_before false more (sym (begins_here 9 (past_white false more) refl) ∙ (ap (λ r. peek r == 9) (sym e) ∙ h))))

-- what was read with it
question_reads : (t u : ScannerState) (more : List ℕ) (y : Site) → t.rest ≡ 63 ∷ more → u.rest ≡ past_white false more → is_separation false (white_of false more) (past_white false more) ≡ true →
    u.held.position ≡ position_after (past t.held.position) (white_of false more) (past_white false more) →
    u.held.leading ≡ has_break (white_of false more) → y.position ≡ position_after t.held.position (63 ∷ []) more → y.before ≡ another → y.blocks ≡ columns u.held.indent u.held.indents → y.awaits ≡ has_open_level u.held.indents → AreLevels u.held.indent u.held.indents →
    t.held.adjacent_value_at ≤ t.held.position.index → (u.held.adjacent_value_at ≡ t.held.adjacent_value_at) × (u.held.started ≡ t.held.started) × (u.held.ended ≡ t.held.ended) → Reads t u y (63 ∷ []) more (white_of false more)
unfolding is_break
question_reads t u more y cut rest fills place leads here before columns_are awaits levels was same =
    grind (arith, past_indicator, white_cut, no_tab_in_last, no_tab_taken, adjacent_kept t u (before_by y.before) (63 ∷ []) more (white_of false more) refl)

-- ---- the function

-- from the separation on
question_read : {P : ScannerState → Type 0} (more l : List ℕ) (p : Position) (h : Held) → l ≡ more → is_at_gap more ≡ true →
    (begins_with_space_or_break more ≡ true → has_tab_before_piece false more ≡ false → is_separation false (white_of false more) (past_white false more) ≡ true → P (on_held (push p Tok.key) (past_white_space (record { rest = more; held = h })))) →
    Holds P (skip_yaml_whitespace (record { rest = l; held = h }) >>= λ w. check_key_space w >>= λ x. Ok (on_held (push p Tok.key) x))
unfolding skip_yaml_whitespace
question_read more l p h left gap f =
    rw left (exactly {C = (is_separation false (white_of false more) (past_white false more) ≡ true) × (begins_with_space_or_break more ≡ true)} _ (weakened (λ w d. (d.0.0, (d.0.1, d.1))) (both_hold (white_exactly (record { rest = more; held = h })) (white_first more h gap))) (λ d.
    exactly _ (space_checked more (past_white_space (record { rest = more; held = h })) refl) (λ apart. went (f d.1 apart d.0))))

-- outside flow
question_outside : (text more : List ℕ) (t : ScannerState) → ArrivesBy text (with_sides t [] (None ∷ [])) [] (None ∷ []) [] → t.rest ≡ 63 ∷ more →
    is_at_gap more ≡ true → IsDeep t.held → Holds (Onward text t.rest) (fetch_key (with_sides t [] (None ∷ [])))
unfolding fetch_key begin_key
question_outside text more t a e gap deep =
    let p : Position = t.held.position in
    let v : ScannerState = with_sides t [] (None ∷ []) in
    let r : RollsTo p.col None (token p Tok.block_mapping_start) v.held (roll_indent p.col None Tok.block_mapping_start p v.held) =
    rolls_to p.col None Tok.block_mapping_start p v.held refl a.are_levels (first_not_right p.col t.held.indent t.held.indents a.are_levels deep) in
    let z : ScannerState = record v { held = roll_indent p.col None Tok.block_mapping_start p v.held } in
    exactly _ (held_exactly v (checked (not t.held.key_allowed) _ (λ f. went (refl, not-false t.held.key_allowed f)))) (λ allowed.
    exactly _ (held_exactly z (key_removed z.held)) (λ _.
    (rw r.is_held (question_read more _ p _ (ap after e) gap (λ begins apart fills.
    read_outside text v _ a (63 ∷ []) more (white_of false more) Tok.key (begun_after p a.site.blocks) _ refl
    (question_reads v _ more _ e refl fills refl refl refl refl (ap (opened p.col) a.blocks_are ∙ sym r.columns_are) (sym (top_closed r.indents (r.is_top deep)).1)
    r.are_levels a.was_adjacent (refl, refl, refl))
    (grind (arith, or_true))
    (grind (arith, append_assoc, append-nil, line_free, a.is_indented (ap is_empty e))))))))

-- the flow level after a piece that begins a pair, by the level of such a pair in a sequence
abbrev pub pair_level : (pair : FlowLevel) → FlowLevel → FlowLevel
pair_level p InEntry = p
pair_level p f = f

-- in flow
question_inside : (text more : List ℕ) (t : ScannerState) (f : FlowLevel) (fs : List FlowLevel) (k : Option Key) (ks : List (Option Key)) (e : Entry) (es : List Entry) →
    ArrivesBy text (with_sides t (f ∷ fs) (k ∷ ks)) (f ∷ fs) (k ∷ ks) (e ∷ es) → t.rest ≡ 63 ∷ more → is_at_gap more ≡ true → IsDeep t.held →
    Holds (Onward text t.rest) (fetch_key (with_sides t (f ∷ fs) (k ∷ ks)))
unfolding fetch_key begin_key is_break
question_inside text more t f fs k ks e es a cut gap deep =
    let levels : keyed (f ∷ fs) ≡ pair_level Keyed f ∷ fs = grind arith in
    let z : ScannerState = with_sides t (keyed (f ∷ fs)) (k ∷ ks) in
    exactly _ (held_exactly z (key_removed z.held)) (λ _. question_read more _ t.held.position _ (ap after cut) gap (λ begins apart fills.
    goes_inside text (with_sides t (f ∷ fs) (k ∷ ks)) _ f (pair_level Keyed f) fs k ks e (record { kind = e.kind; pair = pair_past (takes_pair e.kind e.pair) gives_question e.pair; had = settled }) es a (63 ∷ []) more Tok.key (white_of false more)
    (question_reads (with_sides t (f ∷ fs) (k ∷ ks)) _ more _ cut refl fills refl refl refl refl a.blocks_are a.awaits_is a.are_levels a.was_adjacent (refl, refl, refl))
    (let low = low_enough text (with_sides t (f ∷ fs) (k ∷ ks)) f fs (k ∷ ks) (e ∷ es) a deep in grind (arith, append-nil, levels, tokens_before, a.is_indented (ap is_empty cut), low))))

-- A `?` before a space or a break is read as in the row.
pub key_keeps : (text more : List ℕ) (t : ScannerState) → Arrives text t → t.rest ≡ 63 ∷ more → is_at_gap more ≡ true → IsDeep t.held → Holds (Onward text t.rest) (fetch_key t)
unfolding fetch_key begin_key
key_keeps text more t a e gap deep =
    by_sides text t (λ v. Holds (Onward text v.rest) (fetch_key v)) a (λ k x n. grind (arith, question_outside text more t, refused)) (λ f fs k ks y es x. question_inside text more t f fs k ks y es x e gap deep)
