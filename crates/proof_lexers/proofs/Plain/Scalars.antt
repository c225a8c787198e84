-- Plain scalars are read as their values, and no other text is.
use Rattle.proof_lexers.proofs.Common.{[], and_parts, ap, arith, At, at_dash, begins_left, begins_token, Bool, by_column, by_dash, by_tab, cases_Bool, collection_of, Context, EndsAs, false, Fault, Folded, goes_over, has_break, has_no_nul, HasTab, inl, inr, is_indented, is_blanks, is_shallow, is_white, IsPlainRead, IsPlainRefusal, joined, List, nat_lt, nat_tests, not-true, nothing, if◌then◌else◌, or_parts, Plain, plain, plain_value, PlainScalarsAreRead, PlainScansEndAsTheirTextSays, Position, position_after, Read, reads, refl, refuses, Result, Some, stand_after, stops, suc, sym, true, whole_plain, with_blank, with_char, ℕ, ◌&&◌, ◌++◌, ◌+◌, ◌∙◌, ◌∷◌, ◌≡◌, after_blank, append-nil, at_marker, can_be_plain, ends_plain, ends_with_content, eqb-true, Err, is_blank, is_break, not, on_line, past, slice_index, Stand, tabs, ◌==◌, ◌||◌, FlowIndentation, PlainDashInFlow, PlainTab, is_nul, same_break, same_blank}
use Rattle.defs_token.specs.Plain as defs
use Rattle.model_scanner.specs.Machine as machine
use Rattle.model_scanner.specs.Plain.{between, goes_on, starts}
use Rattle.proof_lexers.specs.PlainEnds.{IsScalarRead, just}
use Rattle.proof_lexers.proofs.Ends.{ends_also}
use Rattle.proof_row.proofs.Plains.{plains}
use Rattle.proof_lexers.proofs.Plain.Found.{leads}
use Rattle.proof_lexers.proofs.Plain.Turns.{after_blanks, after_char, after_gap, after_text, as_deep, at_feed, at_line, blank_step, break_step, can_be, content_step, dash, dash_parts, Fails, fails, flow_untabbed, Found, found, found_here, in_line, in_line_position, in_text, IsStanding, line_is, no_line, off_margin, same_left, scan, scan_in, Scans, tab, Tabbed, tabbed, token_ahead}
use Rattle.proof_lexers.proofs.Plain.Values.{no_markers, value_is}
use Rattle.defs_text.specs.Classes as classes
use Rattle.proof_lexers.proofs.Separation.Separations.{no_hash}

feed_breaks : (c : ℕ) → (c == 10) ≡ true → is_break c ≡ true
unfolding is_break
feed_breaks c h = rw h refl

-- blanks, and a token after them
ahead : (blanks rest : List ℕ) → is_blanks blanks ≡ true → begins_token rest ≡ true → token_ahead (blanks ++ rest) ≡ true
ahead (c ∷ blanks) rest are token = grind (arith, ahead blanks rest)
ahead [] rest are token = grind arith

ahead_parts : (a : List ℕ) → token_ahead a ≡ true → (blanks : List ℕ) × (rest : List ℕ) × (a ≡ blanks ++ rest) × (is_blanks blanks ≡ true) × (begins_token rest ≡ true)
ahead_parts [] h = cc
ahead_parts (c ∷ a) h = elim (cases_Bool (classes.is_blank c)) [
  | inl e ↦ let z = ahead_parts a (rw e at h) in (c ∷ z.0, z.1, ap (λ r. c ∷ r) z.2, rw e z.3, z.4)
  | inr e ↦ ([], c ∷ a, refl, refl, rw e (rw e at h))
]

module _ (ctx : Context) (start : Position) where
  -- a blank at the start of a line, where a TAB that stands too far left is as a space unless a token follows
  line_blank : (c : ℕ) (a : List ℕ) (p : Position) (t : Folded) → is_break c ≡ false → is_blank c ≡ true → t.leading ≡ true → scan_in ctx start tabs a (past p) t ≡ (if token_ahead a then Err (At PlainTab start) else scan_in ctx start between a (past p) t)
      → scan_in ctx start between (c ∷ a) p t ≡ (if (c == 9) && nat_lt p.col ctx.indent && token_ahead a then Err (At PlainTab start) else scan_in ctx start between a (past p) t)
  line_blank c a p t e f lead after = elim (cases_Bool ((c == 9) && nat_lt p.col ctx.indent)) [
    | inl h ↦ let b : (t.leading && (c == 9) && nat_lt p.col ctx.indent) ≡ true = rw lead h in rw (e, f, b, after, h) refl
    | inr h ↦ let b : (t.leading && (c == 9) && nat_lt p.col ctx.indent) ≡ false = rw lead h in rw (e, f, b, lead, h) refl
  ]

  -- What a scan does after a TAB at the start of a line: it refuses a token after blanks, and else the TAB is as a space.
  after_tab : (a : List ℕ) (p : Position) (t : Folded) → t.leading ≡ true → scan_in ctx start tabs a p t ≡ (if token_ahead a then Err (At PlainTab start) else scan_in ctx start between a p t)
  unfolding goes_on is_break is_blank
  after_tab [] p t lead = refl
  after_tab (c ∷ a) p t lead = elim (cases_Bool (is_break c)) [
    | inl e ↦ let f : is_blank c ≡ false = grind (arith, e) in rw (same_blank c, same_break c, e, f) refl
    | inr e ↦ elim (cases_Bool (is_blank c)) [
      | inl f ↦
          let hash : (c == 35) ≡ false = no_hash c f in
          let after = after_tab a (past p) t lead in
          rw (line_blank c a p t e f lead after, same_blank c, e, f, hash, after) (grind arith)
      | inr f ↦ elim (cases_Bool (c == 35)) [ inl h ↦ rw (same_blank c, same_break c, e, f, h) (grind arith) | inr h ↦ rw (same_blank c, same_break c, e, f, h) refl ]
    ]
  ]

  -- ---- at each character

  at_blank : (c : ℕ) (a : List ℕ) (s : Stand) (p : Position) (t : Folded) → is_break c ≡ false → is_blank c ≡ true → Scans ctx start a → IsStanding ctx start (c ∷ a) p t s → Found ctx start s p t (c ∷ a) (scan ctx start (c ∷ a) s p t)
  at_blank c a s p t e f ih (in_line text is off deep) =
      rw is (blank_step ctx start c a defs.inside after_blank p (in_text text) _ e f refl (λ k i l. cc l) ih (after_blanks refl (off_margin p.col) (as_deep ctx p.col deep)) (rw (e, f) refl))
  at_blank c a s p t e f ih (after_blanks lead off deep) =
      blank_step ctx start c a after_blank after_blank p t _ e f refl (λ k i l. cc l) ih (after_blanks (rw lead refl) (off_margin p.col) (as_deep ctx p.col deep)) (rw (e, f, lead) refl)
  at_blank c a s p t e f ih (at_line column is lead) = elim (cases_Bool ((c == 9) && nat_lt p.col ctx.indent && token_ahead a)) [
    | inl h ↦
        let q = and_parts ((c == 9) && nat_lt p.col ctx.indent) (token_ahead a) h in
        let r = and_parts (c == 9) (nat_lt p.col ctx.indent) q.0 in
        fails (At PlainTab start) (tabbed (tab [] a column (ap (λ d. d ∷ a) (eqb-true c 9 r.0)) refl refl (rw is r.1) q.1)) (rw h at turn)
    | inr h ↦ blank_step ctx start c a (on_line column) (on_line (suc column)) p t _ e f refl (λ k i l less. grind arith) ih (at_line (suc column) (omega (arith, is)) (rw lead refl)) (rw h at turn)
  ]
    where
      turn : scan ctx start (c ∷ a) (on_line column) p t ≡ (if (c == 9) && nat_lt p.col ctx.indent && token_ahead a then Err (At PlainTab start) else scan ctx start a (on_line (suc column)) (past p) (with_blank c t))
      turn = line_blank c a p t e f lead (after_tab a (past p) t lead) ∙ (grind arith)
  at_blank c a s p t e f ih (at_feed column feed) = absurd (cc (feed_breaks c feed, e))

  inside_ends : (c : ℕ) (a : List ℕ) → (c == 0) ≡ false → can_be_plain ctx.flow c (slice_index a 0) ≡ not (ends_plain ctx.flow (collection_of ctx.indent) defs.inside (c ∷ a))
  unfolding is_nul
  inside_ends c a nul = can_be ctx.flow c a ∙ rw nul (grind arith)

  at_content : (c : ℕ) (a : List ℕ) (s : Stand) (p : Position) (t : Folded) → (c == 0) ≡ false → is_white c ≡ false → (is_break c || is_blank c) ≡ false → Scans ctx start a → IsStanding ctx start (c ∷ a) p t s
      → Found ctx start s p t (c ∷ a) (scan ctx start (c ∷ a) s p t)
  at_content c a s p t nul white solid ih (in_line text is off deep) =
      let goes = inside_ends c a nul in
      rw is (elim (cases_Bool (ends_plain ctx.flow (collection_of ctx.indent) defs.inside (c ∷ a))) [
        | inl e ↦ found_here ctx start (c ∷ a) defs.inside p (in_text text) _ (rw white e) white (rw (solid, goes, e) refl)
        | inr e ↦ content_step ctx start c a defs.inside p (in_text text) _ white e deep ih (rw (solid, goes, e, append-nil) refl)
      ])
  at_content c a s p t nul white solid ih (after_blanks lead off deep) = after_gap ctx start c a after_blank p t white solid nul refl refl (no_line ctx c a p off deep) ih
  at_content c a s p t nul white solid ih (at_line column is lead) = after_gap ctx start c a (on_line column) p t white solid nul refl refl (line_is ctx c column a ∙ ap (λ k. at_marker k (c ∷ a) || is_shallow ctx k) is) ih
  at_content c a s p t nul white solid ih (at_feed column feed) = absurd (cc (feed_breaks c feed, solid))

  step : (c : ℕ) (a : List ℕ) → (c == 0) ≡ false → Scans ctx start a → Scans ctx start (c ∷ a)
  step c a nul ih s p t stands = elim (cases_Bool (is_break c)) [
    | inl e ↦ break_step ctx start c a s p t e ih
    | inr e ↦ elim (cases_Bool (is_blank c)) [
      | inl f ↦ at_blank c a s p t e f ih stands
      | inr f ↦ at_content c a s p t nul (rw (same_blank c, same_break c, e, f) refl) (rw (e, f) refl) ih stands
    ]
  ]

  none : Scans ctx start []
  none s p t (at_feed column feed) = cc
  none s p t _ = found_here ctx start [] _ p t _ refl refl refl

  pub scans : (a : List ℕ) → has_no_nul a ≡ true → Scans ctx start a
  unfolding is_nul
  scans [] h = none
  scans (c ∷ a) h = let q = and_parts (not (is_nul c)) (has_no_nul a) h in step c a (not-true (is_nul c) q.0) (scans a q.1)

-- a scalar that is indented is so after its first character too
deep : (ctx : Context) (p : Position) → is_indented ctx p ≡ true → is_shallow ctx (p.col + 1) ≡ false
unfolding is_shallow
deep ctx p h = grind (arith, nat_tests)

-- ---- each text

module _ (ctx : Context) (start : Position) (c : ℕ) (a : List ℕ) (white : is_white c ≡ false) where
  blank : classes.is_blank c ≡ false
  blank = (or_parts (classes.is_blank c) (classes.is_break c) white).0

  break : classes.is_break c ≡ false
  break = (or_parts (classes.is_blank c) (classes.is_break c) white).1

  after_first : (more rest : List ℕ) → position_after (machine.past start) more rest ≡ position_after start (c ∷ more) rest
  after_first more rest = ap (λ q. position_after q more rest) (sym (in_line_position c (more ++ rest) start (rw break refl)))

  stand_is : (before : List ℕ) → stand_after defs.after_blank (c ∷ before) ≡ stand_after defs.inside before
  stand_is before = rw (break, blank) refl

  -- the text has a TAB that is told from its second character on
  tab_later : HasTab ctx (c ∷ a) → Tabbed ctx start defs.inside a
  tab_later t = by t.before t.is_text t.is_over t.is_at
    where
      by : (before : List ℕ) → c ∷ a ≡ before ++ 9 ∷ (t.blanks ++ t.rest) → goes_over ctx before (9 ∷ (t.blanks ++ t.rest)) ≡ true → stand_after defs.after_blank before ≡ defs.on_line t.column → Tabbed ctx start defs.inside a
      by [] cut over at = absurd (cc (at))
      by (d ∷ before) cut over at =
          let same : c ≡ d = cc cut in
          tab before (t.blanks ++ t.rest) t.column (cc cut) over (sym (stand_is before) ∙ (ap (λ k. stand_after defs.after_blank (k ∷ before)) same ∙ at)) t.is_left (ahead t.blanks t.rest t.are_blanks t.is_token)

  refusal : begins_left ctx start ≡ false → (f : Fault) → Fails ctx start defs.inside (machine.past start) a f → IsPlainRefusal ctx start (c ∷ a) f
  refusal deep f (dash before rest free flow cut begins goes apart) =
      rw (after_first before (45 ∷ rest)) (by_dash (c ∷ before) rest deep (λ t. free (tab_later t)) flow (ap (λ r. c ∷ r) cut) begins goes (rw (break, blank) apart))
  refusal deep f (tabbed (tab before next column cut goes line less token)) =
      let z = ahead_parts next token in
      by_tab deep (record { before = c ∷ before; blanks = z.0; rest = z.1; column = column; is_text = ap (λ r. c ∷ r) (rw z.2 at cut); is_over = rw z.2 at goes; is_at = stand_is before ∙ line; is_left = less; are_blanks = z.3; is_token = z.4 })

  ended : begins_left ctx start ≡ false → (x : Result (Read Plain) Fault) → Found ctx start defs.inside (machine.past start) (with_char c (joined nothing)) a x → EndsAs (IsPlainRead ctx start (c ∷ a)) (IsPlainRefusal ctx start (c ∷ a)) x
  ended deep x (found more gap rest cut goes solid stop gaps ends is) =
      let content : ends_with_content c more ≡ true = grind (arith, blank, break) in
      let stopping : stops ctx.flow (collection_of ctx.indent) defs.inside (gap ++ rest) ≡ true = grind (arith, stop) in
      let char : with_char c (joined nothing) ≡ after_char c more nothing = rw (break, blank) refl in
      let lead : leads more (with_char c (joined nothing)) gap ≡ has_break gap = grind arith in
      reads _ (whole_plain (c ∷ more) gap rest _ (ap (λ r. c ∷ r) cut) (rw (goes, content, stopping) refl) gaps ends (value_is c more (rw (break, no_markers ctx.flow (collection_of ctx.indent) defs.inside more (gap ++ rest) goes) refl) content))
      (is ∙ same_left ctx start rest _ _ _ _ _ _ (after_first (more ++ gap) rest) (ap (λ u. (after_text more u).text) char) lead)
  ended deep x (fails f why is) = refuses f (refusal deep f why) is

  started : (column at : Bool) → (ctx.flow && nat_lt start.col ctx.indent) ≡ column → at_dash ctx.flow (c ∷ a) ≡ at → has_no_nul a ≡ true → is_indented ctx start ≡ true → EndsAs (IsPlainRead ctx start (c ∷ a)) (IsPlainRefusal ctx start (c ∷ a)) (plain ctx (c ∷ a) start)
  unfolding plain starts
  started true at e f full indented = let q = and_parts ctx.flow (nat_lt start.col ctx.indent) e in refuses (At FlowIndentation start) (by_column q.0 q.1) (rw e refl)
  started false true e f full indented =
      let q = dash_parts ctx start ctx.flow c a f in
      refuses (At PlainDashInFlow start) (by_dash [] a e (λ t. flow_untabbed ctx start a defs.inside q.0 q.2 (tab_later t)) q.0 (ap (λ d. d ∷ a) q.1) q.2 refl refl) (rw (e, f) refl)
  started false false e f full indented =
      rw (e, f) (ended e _ (scans ctx start a full defs.inside (machine.past start) (with_char c (joined nothing)) (in_line (c ∷ []) refl (off_margin start.col) (deep ctx start indented))))

pub scans_end : PlainScansEndAsTheirTextSays
scans_end ctx [] p full solid indented = cc
scans_end ctx (c ∷ a) p full solid indented =
    started ctx p c a (not-true (is_white c) solid) (ctx.flow && nat_lt p.col ctx.indent) (at_dash ctx.flow (c ∷ a)) refl refl ((and_parts _ (has_no_nul a) full).1) indented

-- ---- the whole of a plain scalar

pub scalars_read : PlainScalarsAreRead
scalars_read ctx piece next value p full solid indented whole is = ends_also by (λ f why. why) (scans_end ctx (piece ++ next) p full (grind arith) indented)
  where
    by : (r : Read Plain) → IsPlainRead ctx p (piece ++ next) r → IsScalarRead p piece next value r
    by r (whole_plain u gap rest text cut other gaps ends has) =
        let z = plains ctx.flow (collection_of ctx.indent) piece u next (gap ++ rest) whole other cut in
        let same : Some text ≡ Some value = sym has ∙ ap plain_value (sym z.0) ∙ is in
        let value_is : text ≡ value = cc in
        rw (sym z.0, value_is) (just gap rest z.1 gaps ends)
