-- A colon that ends no key: what holds where it begins holds between two fetches after it.
use Rattle.proof_scanner.proofs.Common.{ValueNotAllowed, [], if◌then◌else◌, Account, allow_key, another, ap, append-nil, append_assoc, AreLevels, arith, Arrives, At, before_by, before_past, begin_keyless_mapping, begin_keyless_value, begin_pair, begins_free_line, Bool, chained, check_value_space, checked, chosen, colon_may_precede, columns, ends_at, entries_by, Entry, entry_by, false, Fault, fetch_value, first_account, FlowLevel, gives_colon, has_open_level, Held, Holds, in_flow, Indent, innermost, insert, insert_key, is_adjacent, is_break, is_deeper, is_empty, is_near, is_value, is_value_indicator, IsEntryOf, IsLive, IsNotRight, Key, length, length-append, Line, List, None, not, not-false, not_ended, Ok, on_held, opened, opens_pair, Option, Outside, outside_key, pair_past, pair_position, paired, past, placed, pop, Position, position_after, push, put, put_key, refl, Result, roll_indent, roll_one_col_indent, ScannerState, settled, Site, site_here, Some, spelled, Step, subst, suc, sym, taken, takes_pair, Tok, Token, token, tokens_at, tokens_of_step, tokens_up_to, top_key, tried, true, try_held, waits, went, with_held, with_keys, ℕ, ◌++◌, ◌==◌, ◌>>=◌, ◌||◌, ◌∙◌, ◌∷◌, ◌≡◌, ◌≤◌, KeysBefore, keys_before, line_grows, AreNumbered, is_required, in_block}
use Rattle.model_scanner.specs.declared.level.FlowLevel.TheVariants.{Pair as InPair}
use Rattle.model_scanner.specs.Block.{value_of}
use Rattle.proof_scanner.proofs.Sound.Steps.{exactly, held_exactly, Onward, among, by_sides, with_sides, ArrivesBy, begun_after, ends_outside, first_not_right, goes_inside, goes_of, IsDeep, key_longer, keyless, keys_along, line_free, line_taken, low_enough, no_waiting, not_before_after, not_before_then, numbered_around, numbered_more, Outer, outer_completes, outer_then, past_indicator, past_step, read_outside, Reads, reads_before_none, rolls_to, RollsTo, steps_in_flow, tokens_before, value_is, weaker, with_entries, with_start, line_rest_in_line, same_in_line, OpensLevel, opens_level, keys_own}
use Rattle.proof_scanner.proofs.Sound.ColonSpaces.{colon_gap, colon_spaced, gap_is, past_gap}
use Rattle.proof_scanner.proofs.Sound.Questions.{pair_level}
use Rattle.model_scanner.specs.State.{after}

-- ---- where a colon is an indicator

-- the model and the definition say alike
pub value_here : (text more : List ℕ) (t : ScannerState) (fs : List FlowLevel) (ks : List (Option Key)) (es : List Entry) (a : ArrivesBy text t fs ks es) → t.held.flow ≡ fs → t.rest ≡ 58 ∷ more → is_value t ≡ true →
    is_value_indicator (not (is_empty fs)) (is_adjacent (before_past (before_by a.site.before) a.separation)) more ≡ true
value_here text more t fs ks es a flow e h = grind (arith, value_is)

-- ---- what the model does after the colon and what is read there

-- what the scanner holds then, if these are its flow levels and keys
abbrev pub at_value : (more : List ℕ) → ScannerState → List FlowLevel → List (Option Key) → Held
at_value more t fs ks = record t.held { flow = paired fs; keys = ks; position = pair_position (past t.held.position) more; leading = false }

abbrev pub value_by : (more : List ℕ) → ScannerState → List FlowLevel → List (Option Key) → Result ScannerState Fault
value_by more t fs ks = with_held (record { rest = past_gap more; held = at_value more t fs ks }) (value_of (top_key ks) t.held.position (opens_pair fs) (at_value more t fs ks)) >>= λ v. Ok (on_held (push t.held.position Tok.value) v)

-- what it holds in the end
abbrev pub colon_end : ScannerState → (more : List ℕ) → List Indent → ℕ → List Token → (allowed : Bool) → List FlowLevel → List (Option Key) → ScannerState
colon_end t more ds i ts allowed fs ks = record {
  rest = past_gap more;
  held = record t.held { position = pair_position (past t.held.position) more; leading = false; indents = ds; indent = i; tokens = ts ++ token t.held.position Tok.value ∷ []; key_allowed = allowed; flow = fs; keys = ks };
}

-- what was read with it
pub colon_reads : (t : ScannerState) (more : List ℕ) (ds : List Indent) (i : ℕ) (ts : List Token) (allowed : Bool) (fs : List FlowLevel) (ks : List (Option Key)) (y : Site) → t.rest ≡ 58 ∷ more → y.position ≡ position_after t.held.position (58 ∷ []) more → y.before ≡ another →
    y.blocks ≡ columns i ds → y.awaits ≡ has_open_level ds → AreLevels i ds → t.held.adjacent_value_at ≤ t.held.position.index → Reads t (colon_end t more ds i ts allowed fs ks) y (58 ∷ []) more (colon_gap more)
unfolding is_break
colon_reads t more ds i ts allowed fs ks y cut here before columns_are awaits levels was =
    reads_before_none t (colon_end t more ds i ts allowed fs ks) y (58 ∷ []) more (colon_gap more) refl cut (gap_is more).0 (gap_is more).1 (gap_is more).2 here (grind (arith, past_indicator, same_in_line, line_rest_in_line)) refl before columns_are awaits levels was (refl, refl, refl)

-- ---- outside flow

pub keyless_outside : (text more : List ℕ) (t : ScannerState) (a : ArrivesBy text t [] (None ∷ []) []) → t.rest ≡ 58 ∷ more → colon_may_precede more ≡ true → is_value_indicator false (is_adjacent (before_past (before_by a.site.before) a.separation)) more ≡ true → IsDeep t.held →
    Holds (Onward text t.rest) (value_by more t [] (None ∷ []))
unfolding begin_keyless_value begin_keyless_mapping
keyless_outside text more t a e apart ind deep =
    let p : Position = t.held.position in
    let h : Held = at_value more t [] (None ∷ []) in
    -- the level of a mapping, if one begins
    let m : RollsTo p.col None (token p Tok.block_mapping_start) h (roll_indent p.col None Tok.block_mapping_start p h) =
    rolls_to p.col None Tok.block_mapping_start p h refl a.are_levels (first_not_right p.col t.held.indent t.held.indents a.are_levels deep) in
    let rolled : Held = record h { indents = m.indents; indent = m.indent; tokens = with_start Tok.block_mapping_start t } in
    -- and one that no collection opens
    let l : OpensLevel rolled (roll_one_col_indent rolled) = opens_level rolled m.are_levels in
    exactly _ (held_exactly (record { rest = past_gap more; held = h })
    (exactly _ (checked (not t.held.key_allowed) (At ValueNotAllowed p) (λ f. went (m.is_held, not-false t.held.key_allowed f))) (λ allowed. went (ap (λ v. allow_key (not (in_flow v)) v) l.is_held, allowed)))) (λ allowed. went
    (read_outside text t _ a (58 ∷ []) more (colon_gap more) Tok.value (begun_after p a.site.blocks) _ refl
    (colon_reads t more l.indents l.indent (with_start Tok.block_mapping_start t) true [] (None ∷ []) _ e refl refl
    (ap (opened p.col) a.blocks_are ∙ sym (l.columns_are ∙ m.columns_are)) (sym (l.awaits ∙ ap (λ bs. not (is_empty bs)) m.columns_are ∙ (grind arith))) l.are_levels a.was_adjacent)
    (grind arith) (grind (arith, append_assoc, append-nil, line_free, a.is_indented (ap is_empty e)))))

-- ---- in flow

-- the entry after it
abbrev pub valued_entry : Entry → Entry
valued_entry e = record { kind = e.kind; pair = pair_past (takes_pair e.kind e.pair) gives_colon e.pair; had = settled }

-- a single pair begins just where the scanner opens one
pub single_is : (f : FlowLevel) (fs : List FlowLevel) (k : Option Key) (e : Entry) → IsEntryOf f k e → takes_pair e.kind e.pair ≡ opens_pair (f ∷ fs)
single_is f fs k e h = grind arith

pub keyless_inside : (text more : List ℕ) (t : ScannerState) (f : FlowLevel) (fs : List FlowLevel) (ks : List (Option Key)) (e : Entry) (es : List Entry) (a : ArrivesBy text t (f ∷ fs) (None ∷ ks) (e ∷ es)) → t.rest ≡ 58 ∷ more → colon_may_precede more ≡ true →
    is_value_indicator true (is_adjacent (before_past (before_by a.site.before) a.separation)) more ≡ true → IsDeep t.held → Holds (Onward text t.rest) (value_by more t (f ∷ fs) (None ∷ ks))
unfolding begin_keyless_value begin_keyless_mapping is_break roll_one_col_indent in_block
keyless_inside text more t f fs ks e es a cut apart ind deep =
    -- the tokens with the start of a single pair, if one begins
    let ts : List Token = (if opens_pair (f ∷ fs) then t.held.tokens ++ token (pair_position (past t.held.position) more) Tok.flow_mapping_start ∷ [] else t.held.tokens) in
    chained {P = λ w. w ≡ record { rest = past_gap more; held = (record t.held { flow = pair_level InPair f ∷ fs; keys = None ∷ ks; position = pair_position (past t.held.position) more; leading = false; key_allowed = false; tokens = ts }) }}
    (tried (record { rest = past_gap more; held = at_value more t (f ∷ fs) (None ∷ ks) }) _ (grind (arith, went)) (λ s d. ap (λ y. record { rest = past_gap more; held = y }) d)) (λ w d.
    went (subst (λ z. Onward text t.rest (on_held (push t.held.position Tok.value) z)) (sym d)
    (goes_inside text t _ f (pair_level InPair f) fs None ks e (valued_entry e) es a (58 ∷ []) more Tok.value (colon_gap more)
    (colon_reads t more t.held.indents t.held.indent ts false (pair_level InPair f ∷ fs) (None ∷ ks) _ cut refl refl a.blocks_are a.awaits_is a.are_levels a.was_adjacent)
    (grind (arith, append_assoc, past_indicator, single_is, tokens_before, a.is_indented (ap is_empty cut), low_enough text t f fs (None ∷ ks) (e ∷ es) a deep)))))

-- ---- a colon that ends the key that is open, outside flow: what holds where it begins holds between two fetches after it

module _ (text more : List ℕ) (t : ScannerState) (k : Key) (a : ArrivesBy text t [] (Some k ∷ []) []) (e : t.rest ≡ 58 ∷ more) (apart : colon_may_precede more ≡ true) (ind : is_value_indicator false (is_adjacent (before_past (before_by a.site.before) a.separation)) more ≡ true) where
  abbrev x : Site
  x = site_here false t.held.position a.site

  live : IsLive k t.held.position t.rest
  live = ((a.is_near refl).0, (ap is_empty e))

  -- no collection ends here
  same_blocks : not_ended t.held.position.col a.site.blocks ≡ a.site.blocks
  same_blocks = grind (arith, live, a, not_before_then k.position a.site.position t.held.position, weaker, not_before_after a.site.position a.separation t.rest)

  -- no line begins before the colon, and it is near
  quiet : (begins_free_line a.site.before a.separation ≡ false) × (is_near k.position t.held.position ≡ true)
  quiet = grind arith

  -- what the scanner holds with the key, and with its mapping
  abbrev pub held_key : Held
  held_key = record (at_value more t [] (Some k ∷ [])) { tokens = insert t.held.tokens k.number (token k.position Tok.key) }

  -- the key, and the start of its mapping where that begins, before the tokens of its number
  abbrev pub now : List Token
  now =
      let keyed : List Token = insert t.held.tokens k.number (token k.position Tok.key) in
      (if is_deeper k.position.col (columns t.held.indent t.held.indents) then placed (Some k.number) (token t.held.position Tok.block_mapping_start) keyed else keyed)

  pub rolled : RollsTo k.position.col (Some k.number) (token t.held.position Tok.block_mapping_start) held_key (roll_indent k.position.col (Some k.number) Tok.block_mapping_start t.held.position held_key)
  rolled = rolls_to k.position.col (Some k.number) Tok.block_mapping_start t.held.position held_key refl a.are_levels (subst (λ bs. IsNotRight (innermost bs) k.position.col) (sym same_blocks ∙ a.blocks_are) (a.is_open.1 live).column_is)

  abbrev pub held_rolled : Held
  held_rolled = record held_key { indents = rolled.indents; indent = rolled.indent; tokens = now }

  pub awaiting : OpensLevel held_rolled (roll_one_col_indent held_rolled)
  awaiting = opens_level held_rolled rolled.are_levels

  abbrev pub keyed_end : ScannerState
  keyed_end = colon_end t more awaiting.indents awaiting.indent now false [] (None ∷ [])

  abbrev outside_after : Outside
  outside_after = record { line = taken; blocks = opened k.position.col x.blocks }

  -- the key goes in before the tokens of its number
  keyed_tokens : (ws : List Step) (last : List ℕ) → spelled ws last ≡ more →
      (let w : Step = keyless a.separation (58 ∷ []) Tok.value in tokens_up_to (Outer a.site (waits k.position)) (Some k ∷ []) a.tokens (w ∷ ws) last ++ tokens_of_step (Outer a.site (waits k.position)) w ws last ≡ keyed_end.held.tokens)
  keyed_tokens ws last h = grind (arith, quiet, (a.position_is ∙ ap (λ y. position_after a.site.position a.separation y) e), (sym same_blocks ∙ a.blocks_are), (a.tokens_are ∙ (ap (λ bs. a.tokens ++ ends_at t.held.position a.site.blocks bs) same_blocks ∙ (ap (λ x. a.tokens ++ x) (grind arith) ∙ append-nil a.tokens))), same_blocks)

  pub keyed_outside : Holds (Onward text t.rest) (value_by more t [] (Some k ∷ []))
  unfolding insert_key begin_pair
  keyed_outside =
      subst (λ r. Holds (Onward text t.rest) r) (sym (grind arith)) (went {x = keyed_end}
      (ends_outside text t keyed_end (Some k) a (58 ∷ []) more (colon_gap more) Tok.value outside_after x refl
      (colon_reads t more awaiting.indents awaiting.indent now false [] (None ∷ []) _ e refl refl (ap (opened k.position.col) a.blocks_are ∙ sym (awaiting.columns_are ∙ rolled.columns_are)) (sym (awaiting.awaits ∙ ap (λ bs. not (is_empty bs)) rolled.columns_are ∙ (grind arith))) awaiting.are_levels a.was_adjacent)
      (let line = ap not (gap_is more).2 in grind (arith, line))
      (grind arith) refl
      (λ strict. goes_of strict text more (outer_then text t (Some k) a (58 ∷ []) more Tok.value x e refl outside_after) keyed_end.held.tokens refl refl
      (outer_completes text t (Some k) a (58 ∷ []) more Tok.value x e refl true false (waits k.position) (waits k.position) outside_after (tokens_up_to (Outer a.site (waits k.position)) (Some k ∷ []) a.tokens) (λ ws last. keyed_end.held.tokens) (grind (arith, (ap is_empty e), quiet, no_waiting)) keyed_tokens
      (a.completes true true [] live)))))

-- ---- in flow

module _ (text more : List ℕ) (t : ScannerState) (f : FlowLevel) (fs : List FlowLevel) (k : Key) (ks : List (Option Key)) (x : Entry) (es : List Entry) (a : ArrivesBy text t (f ∷ fs) (Some k ∷ ks) (x ∷ es)) (e : t.rest ≡ 58 ∷ more) (apart : colon_may_precede more ≡ true)
    (ind : is_value_indicator true (is_adjacent (before_past (before_by a.site.before) a.separation)) more ≡ true) (deep : IsDeep t.held) where
  -- the tokens with the key, and the start of a single pair, if that begins
  abbrev pub in_pair : (single : Bool) → List Token
  in_pair single = put_key single (put (pair_position (past t.held.position) more) Tok.flow_mapping_start) k.number k.position t.held.tokens

  -- a single pair's key stands on the colon's line
  pair_begun : (g : FlowLevel) → k.position.line ≤ t.held.position.line →
      Holds (λ y. (y ≡ record t.held { flow = pair_level InPair g ∷ fs; keys = None ∷ ks; position = pair_position (past t.held.position) more; leading = false; key_allowed = false; tokens = in_pair (opens_pair (g ∷ fs)) }) × ((not (opens_pair (g ∷ fs)) || (k.position.line == t.held.position.line)) ≡ true)) (insert_key k t.held.position (opens_pair (g ∷ fs)) (at_value more t (g ∷ fs) (Some k ∷ ks)))
  unfolding insert_key begin_pair roll_indent roll_one_col_indent in_block
  pair_begun a h = grind (arith, chained, checked, went)

  abbrev pub inner_after : ScannerState
  inner_after = colon_end t more t.held.indents t.held.indent (in_pair (opens_pair (f ∷ fs))) false (pair_level InPair f ∷ fs) (None ∷ ks)

  inner_tokens : (cs : List Bool) (l : Line) (ws : List Step) (last : List ℕ) → spelled ws last ≡ more →
      (let w : Step = keyless a.separation (58 ∷ []) Tok.value in let ys : List Entry = entry_by true (Some k) x ∷ entries_by (pop cs) ks es in
      tokens_up_to (with_entries a.site l ys) (Some k ∷ ks) a.tokens (w ∷ ws) last ++ tokens_at a.site (site_here true (position_after a.site.position a.separation (58 ∷ spelled ws last)) a.site) w ws last l ys ≡
      with_keys 1 (past_step a.site.position w ws last) ws last a.site.blocks l (entries_by (pop cs) ks es) ks inner_after.held.tokens)
  unfolding is_break
  inner_tokens cs l ws last h =
      let w : Step = keyless a.separation (58 ∷ []) Tok.value in
      let ys : List Entry = entries_by (pop cs) ks es in
      let shown : List Token = put (position_after a.site.position a.separation (58 ∷ spelled ws last)) Tok.value ∷ [] in
      let own = keys_own 0 a.site.position (w ∷ ws) last a.site.blocks l (entry_by true (Some k) x) ys (Some k) ks a.tokens shown (among (length a.tokens) (Some k ∷ ks) a.are_numbered) in
      let along = keys_along (λ m. suc m) (λ m. suc m) (λ m. refl) (λ m. refl) 0 a.site.position (past_step a.site.position w ws last) w ws last (λ m. refl) a.site.blocks l ys ks in
      let shared = tokens_before text t f fs (Some k) ks x es a in
      grind (arith, a.position_is, e, h, single_is f fs (Some k) x a.are_entries.0, past_indicator t.held.position 58 more refl, shared, own, along)

  pub inner_stands : (not (opens_pair (f ∷ fs)) || (k.position.line == t.held.position.line)) ≡ true → Onward text t.rest inner_after
  unfolding is_break
  inner_stands its_line =
      let numbered : AreNumbered (length inner_after.held.tokens) ks =
      numbered_more (length a.tokens) (length inner_after.held.tokens) ks (grind (arith, key_longer, tokens_before, length-append)) (numbered_around (length a.tokens) (Some k) ks a.are_numbered) in
      steps_in_flow text t inner_after f fs (Some k) ks x es a (58 ∷ []) more Tok.value (None ∷ ks) (valued_entry x ∷ es) (λ _. true) pop (λ _. false) (pair_level InPair f ∷ fs) (colon_gap more)
      (colon_reads t more t.held.indents t.held.indent (in_pair (opens_pair (f ∷ fs))) false (pair_level InPair f ∷ fs) (None ∷ ks) _ e refl refl a.blocks_are a.awaits_is a.are_levels a.was_adjacent)
      (grind (arith, single_is, line_taken text t f fs (Some k) ks x es a, numbered))
      (let low = low_enough text t f fs (Some k ∷ ks) (x ∷ es) a deep in grind (arith, ind, a.is_indented (ap is_empty e), low, apart, single_is f fs (Some k) x a.are_entries.0)) inner_tokens

  pub keyed_inside : k.position.line ≤ t.held.position.line → Holds (Onward text t.rest) (value_by more t (f ∷ fs) (Some k ∷ ks))
  keyed_inside early = exactly _ (held_exactly (record { rest = past_gap more; held = at_value more t (f ∷ fs) (Some k ∷ ks) }) (pair_begun f early)) (λ its_line. went (inner_stands its_line))

-- ---- the open key of an entry began on the scanner's line, or before it: so a row says it in which it waits

pub key_before : (text : List ℕ) (t : ScannerState) (f : FlowLevel) (fs : List FlowLevel) (k : Key) (ks : List (Option Key)) (x : Entry) (es : List Entry) → ArrivesBy text t (f ∷ fs) (Some k ∷ ks) (x ∷ es) → is_empty t.rest ≡ false →
    k.position.line ≤ t.held.position.line
key_before text t f fs k ks x es a some = by (outside_key es ks) (is_required (outside_key es ks)) refl refl
  where
    b : Account
    b = chosen false (true ∷ []) (Some k ∷ ks) (with_entries a.site a.line (x ∷ es))

    early : KeysBefore b → k.position.line ≤ t.held.position.line
    early h = let there = ap (λ q. q.line) a.position_is in let grows = line_grows a.site.position a.separation t.rest in omega (arith, h.0, there, grows)

    by : (y : Option Key) (c : Bool) → outside_key es ks ≡ y → is_required y ≡ c → k.position.line ≤ t.held.position.line
    by y false i e =
        let g = (a.completes true false (true ∷ []) (rw i (grind arith))).0 in
        early (keys_before (Some first_account) g.steps (a.separation ++ t.rest) b g.leads tt)
    by None true i e = absurd (cc e)
    by (Some z) true i e =
        let g = a.carries (true ∷ []) z i e refl some in
        let first = keys_before (Some first_account) g.begins.steps (spelled g.steps (a.separation ++ t.rest)) g.account g.begins.leads tt in
        early (keys_before (Some (record g.account { line = taken })) g.steps (a.separation ++ t.rest) b g.leads first)

-- ---- the function of the model that reads a colon: what holds where it begins holds between two fetches after it

-- A colon that is the indicator of a value is read as in the row.
pub value_keeps : (text more : List ℕ) (t : ScannerState) → Arrives text t → t.rest ≡ 58 ∷ more → is_value t ≡ true → IsDeep t.held → Holds (Onward text t.rest) (fetch_value t)
unfolding fetch_value
value_keeps text more t a e ind deep =
    subst (λ l. Holds (Onward text t.rest) (check_value_space (record { rest = after l; held = h }) >>= value_on)) (sym e)
    (exactly _ (colon_spaced more h) (λ apart. by_sides text t (λ v. is_value v ≡ true → Holds (Onward text t.rest) (value_by more v v.held.flow v.held.keys)) a (λ k x n. outer k x apart) (λ f fs k ks y es x. inner f fs k ks y es x apart) ind))
  where
    h : Held
    h = record t.held { flow = paired t.held.flow; position = past t.held.position; leading = false }

    value_on : ScannerState → Result ScannerState Fault
    value_on u = try_held (λ s. value_of (top_key s.keys) t.held.position (opens_pair t.held.flow) s) u >>= λ v. Ok (on_held (push t.held.position Tok.value) v)

    outer : (k : Option Key) → ArrivesBy text (with_sides t [] (k ∷ [])) [] (k ∷ []) [] → colon_may_precede more ≡ true → is_value (with_sides t [] (k ∷ [])) ≡ true → Holds (Onward text t.rest) (value_by more (with_sides t [] (k ∷ [])) [] (k ∷ []))
    outer None x apart ind = keyless_outside text more _ x e apart (value_here text more _ [] (None ∷ []) [] x refl e ind) deep
    outer (Some k) x apart ind = keyed_outside text more _ k x e apart (value_here text more _ [] (Some k ∷ []) [] x refl e ind)

    inner : (f : FlowLevel) (fs : List FlowLevel) (k : Option Key) (ks : List (Option Key)) (y : Entry) (es : List Entry) → ArrivesBy text (with_sides t (f ∷ fs) (k ∷ ks)) (f ∷ fs) (k ∷ ks) (y ∷ es) → colon_may_precede more ≡ true →
        is_value (with_sides t (f ∷ fs) (k ∷ ks)) ≡ true → Holds (Onward text t.rest) (value_by more (with_sides t (f ∷ fs) (k ∷ ks)) (f ∷ fs) (k ∷ ks))
    inner f fs None ks y es x apart ind = keyless_inside text more _ f fs ks y es x e apart (value_here text more _ (f ∷ fs) (None ∷ ks) (y ∷ es) x refl e ind) deep
    inner f fs (Some k) ks y es x apart ind = keyed_inside text more _ f fs k ks y es x e apart (value_here text more _ (f ∷ fs) (Some k ∷ ks) (y ∷ es) x refl e ind) deep (key_before text _ f fs k ks y es x (ap is_empty e))
