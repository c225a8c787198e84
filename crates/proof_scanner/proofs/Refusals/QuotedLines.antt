-- The scan of a quoted scalar reads one, or refuses the text for what is wrong with it first.
use Rattle.proof_scanner.proofs.Common.{position_past, position_append, [], cases_Bool, inl, inr, after_element, after_escaped, after_gap, after_quote, along, along_more, and_false, and_parts, ap, append-nil, arith, At, at_start, begins_further, begins_marked, Begun, begun, blank, Bool, break_further, content, Context, drop, element_of, ends_before, eqb-true, Err, escape, false, Fault, first_is_gap, first_fails, Folded, gap, in_gap, inside, is_document_marker, is_marked, is_some, append_cancel_right, ◌++◌, quoted_lines_fit, joined, LineStand, List, list_all, marked, Mode, nat_lt, nat_tests, None, not, not-true, nothing, off_margin, Ok, Option, past, past_element, past_escaped, past_is, Position, position_after, Problem, quoted, Read, refl, Result, scan, shallow, Some, Spelled, step, StepOf, steps, subst, suc, sym, take, true, white_stands, with_break, with_escaped_break, within, zero, ℕ, ◌&&◌, ◌+◌, ◌==◌, ◌∙◌, ◌∷◌, ◌≡◌, ◌≤◌, past_elements, QuotedDocumentMarker, QuotedEnd, QuotedIndentation, TabAsIndentation, break_leads}
use Rattle.yaml_chars.specs.Class.{is_break, is_blank}
use Rattle.model_scanner.specs.Quoted.{after}
use Rattle.model_scanner.specs.Quoted as model
use Rattle.proof_lexers.proofs.Quoted.Faults.{escape_fails}
use Rattle.proof_lexers.proofs.Quoted.Shapes.{NoElement, closing, slash, no_element}
use Rattle.proof_lexers.proofs.Quoted.Turns.{spelled, begins, Step, is_shallow}
use Rattle.proof_scanner.proofs.Sound.QuotedBreaks.{Kind, has_content, has_blank, has_line, has_escaped, is_white, quote_white, slash_white, body_between}
use Rattle.proof_scanner.specs.NoPiece.{quote_of}
use Rattle.proof_scanner.proofs.Refusals.QuotedReasons.{quote_no_break, after_quote_at, no_quote, solid_here, past_line, past_two, kind_of, content_after, stands, by_escape, arrived, stepped, Reason, Wrong, Closed, parted, all_stand, before_quote, lines_close}

-- the faults of further lines
abbrev pub is_of_lines : Fault → Bool
is_of_lines (At QuotedIndentation p) = true
is_of_lines (At TabAsIndentation p) = true
is_of_lines f = false

-- ---- texts

closes : (single : Bool) (ctx : Context) (start : Position) (r : List ℕ) (p : Position) (u : Folded) → ends_before single r ≡ true → scan single ctx start (quote_of single ∷ r) inside p u ≡ Ok (record { rest = r; position = past p; value = u.text })
unfolding is_break is_blank
closes a ctx b r p u e = grind arith

same_quote : (single : Bool) → model.quote_of single ≡ quote_of single
same_quote a = grind arith

slash_no_quote : (single : Bool) → (92 == quote_of single) ≡ false
slash_no_quote a = grind arith

-- after an escaped break a line begins
escaped_goes : (single : Bool) (ctx : Context) (start : Position) → single ≡ false → (d : ℕ) (a : List ℕ) (p : Position) (u : Folded) → is_break d ≡ true
    → scan single ctx start (92 ∷ d ∷ a) inside p u ≡ scan single ctx start (drop (break_further d a) a) after (position_after p (92 ∷ d ∷ take (break_further d a) a) (drop (break_further d a) a)) (with_escaped_break u)
unfolding is_break is_blank
escaped_goes false ctx start double d (f ∷ a) p u e = elim (cases_Bool ((d == 13) && (f == 10))) [
  | inl g ↦
      let q = and_parts (d == 13) (f == 10) g in
      rw (eqb-true d 13 q.0, eqb-true f 10 q.1) (ap (λ x. scan false ctx start a after x (with_escaped_break u)) (sym (ap (λ x. position_after x (13 ∷ 10 ∷ []) a) (past_is p 92 (13 ∷ 10 ∷ a) refl) ∙ past_two (past p) a)))
  | inr g ↦ rw (e, g) (ap (λ x. scan false ctx start (f ∷ a) after x (with_escaped_break u)) (sym (ap (λ x. position_past x d (f ∷ a)) (past_is p 92 (d ∷ f ∷ a) refl) ∙ past_line (past p) d (f ∷ a) e g)))
]
escaped_goes a ctx start double d b p u e = grind (arith, past_line, past_is, and_false)

module _ (single : Bool) (ctx : Context) (start : Position) (least : ℕ) (limit : (k : ℕ) → nat_lt (k + 1) ctx.indent ≡ nat_lt k least) where
  -- How a scan ends of a text from an element on.
  pub data Ends (s : LineStand) (p : Position) (text : List ℕ) (x : Result (Read (List ℕ)) Fault) : Type 0 where
    refused : (why : Problem) (at : Position) → Reason single least start s p text why at → x ≡ Err (At why at) → Ends s p text x
    reads : (y : Read (List ℕ)) → Closed single least start s p text y.rest y.position → x ≡ Ok y → Ends s p text x

  -- how the scan stands where an element may begin
  data Stood (p : Position) (t : Folded) : LineStand → Mode → Type 0 where
    in_line : nat_lt p.col least ≡ false → Stood p t within gap
    begins_here : t.leading ≡ true → Stood p t at_start gap
    escaped : single ≡ false → t.leading ≡ true → Stood p t past_escaped after

  abbrev Later : List ℕ → Type 0
  Later text = (s : LineStand) (p : Position) (m : Mode) (t : Folded) → Stood p t s m → Ends s p text (scan single ctx start text m p t)

  -- ---- where an element begins

  -- a line begins left of the column
  opens : (s : LineStand) (m : Mode) (p : Position) (t : Folded) (closes : Bool) → Stood p t s m → (s ≡ past_escaped → closes ≡ false) → nat_lt p.col least ≡ true → begins_further s closes ≡ true
  opens s m p t closes a unlike low = grind arith

  -- What is neither blank nor break is refused for what is wrong there, or it begins a line or goes on in one.
  started : (R : Type 0) (c : ℕ) (b : List ℕ) (s : LineStand) (m : Mode) (p : Position) (t : Folded) → is_white c ≡ false → Stood p t s m → (s ≡ past_escaped → (c == quote_of single) ≡ false)
      → ((why : Problem) (at : Position) → Wrong single least start s p (c ∷ b) why at → scan single ctx start (c ∷ b) gap p t ≡ Err (At why at) → R)
      → (((p.col == 0) && is_document_marker (c ∷ b)) ≡ false → nat_lt p.col least ≡ false → scan single ctx start (c ∷ b) gap p t ≡ scan single ctx start (c ∷ b) inside p (joined t) → R) → R
  started R c b s m p t solid stood unlike bad on = by ((p.col == 0) && is_document_marker (c ∷ b)) refl (begins single ctx start c b p t solid)
    where
      by : (marker : Bool) → ((p.col == 0) && is_document_marker (c ∷ b)) ≡ marker → Begun single ctx start (c ∷ b) p t → R
      by true h z = bad QuotedDocumentMarker start (inl (h, refl, refl)) (begins_marked single ctx start c b p t solid h)
      by false h (begun none deep i) = on none (sym (limit p.col) ∙ deep) i
      by false h (marked g i) = absurd (cc (g, h))
      by false h (shallow g i) =
          let low : nat_lt p.col least ≡ true = sym (limit p.col) ∙ g in
          bad QuotedIndentation start (inr (h, inr (inr (inl (solid_here c b solid, opens s m p t (c == quote_of single) stood unlike low, low, refl, refl))))) i

  -- What the scan does with an element: it refuses it for what is wrong there; or the element may stand, and the scan goes on after it.
  data Turns (c : ℕ) (b : List ℕ) (s : LineStand) (p : Position) (e : Spelled) (x : Result (Read (List ℕ)) Fault) : Type 0 where
    fails : (why : Problem) (at : Position) → Wrong single least start s p (c ∷ b) why at → x ≡ Err (At why at) → Turns c b s p e x
    goes : (m : Mode) (q : Position) (u : Folded) → q ≡ position_after p (c ∷ take e.further b) (drop e.further b) → Stood q u (past_element s e.element) m → stands least s p.col e.element ≡ true → ((p.col == 0) && is_document_marker (c ∷ b)) ≡ false
        → x ≡ scan single ctx start (drop e.further b) m q u → Turns c b s p e x

  deep_stands : (s : LineStand) (k : ℕ) → nat_lt k least ≡ false → not (begins_further s false && nat_lt k least) ≡ true
  deep_stands s k h = rw (h, and_false (begins_further s false)) refl

  no_escaped : (c : ℕ) (s : LineStand) (m : Mode) (p : Position) (t : Folded) → Stood p t s m → (single ≡ false → (c == quote_of single) ≡ false) → s ≡ past_escaped → (c == quote_of single) ≡ false
  no_escaped c s m p t a unlike h = grind arith

  -- a blank that is not refused may stand
  blank_stands : (c : ℕ) (s : LineStand) (m : Mode) (p : Position) (t : Folded) → Stood p t s m → (t.leading && (c == 9) && nat_lt (p.col + 1) ctx.indent) ≡ false → stands least s p.col (blank c) ≡ true
  blank_stands c s m p t a h = grind (arith, nat_tests, limit)

  blank_goes : (c : ℕ) (s : LineStand) (m : Mode) (p : Position) (t : Folded) → Stood p t s m → Stood (past p) (after_element (blank c) t) (past_element s (blank c)) gap
  blank_goes c s m p t a = grind (arith, nat_tests, in_line, begins_here)

  line_goes : (c : ℕ) (b : List ℕ) (p : Position) (t : Folded) → is_break c ≡ true → scan single ctx start (c ∷ b) gap p t ≡ scan single ctx start (drop (break_further c b) b) gap (position_after p (c ∷ take (break_further c b) b) (drop (break_further c b) b)) (with_break t)
  unfolding is_break is_blank
  line_goes c b p t f = grind (arith, nat_tests, past_line, and_false, and_parts, eqb-true, past_two, f)

  turns : (c : ℕ) (b : List ℕ) (e : Spelled) → element_of single c b ≡ Some e → Kind single c b e → (single ≡ false → (c == quote_of single) ≡ false) → (s : LineStand) (p : Position) (m : Mode) (t : Folded) → Stood p t s m → Turns c b s p e (scan single ctx start (c ∷ b) gap p t)
  turns c b e is (has_content code k solid) unlike s p m t stood =
      started _ c b s m p t solid stood (no_escaped c s m p t stood unlike) fails (λ none deep i. go none deep (subst (λ o. StepOf single ctx start c b [] p t o) is (step single ctx start c b [] p t refl)))
    where
      go : ((p.col == 0) && is_document_marker (c ∷ b)) ≡ false → nat_lt p.col least ≡ false → Step single ctx start c b [] p t (spelled (content code) k) → Turns c b s p (spelled (content code) k) (scan single ctx start (c ∷ b) gap p t)
      go none deep (steps _ q at in_gap full unmarked marks j) =
          let further : p.col ≤ (along (c ∷ take k b) p).col = along_more (c ∷ take k b) p in
          let still : nat_lt q.col least ≡ false = ap (λ (z : Position). nat_lt z.col least) at ∙ grind (arith, nat_tests, further, deep) in
          goes gap q _ (at ∙ sym (content_after single c b code k is p)) (in_line still) (deep_stands s p.col deep) none (simp append-nil at j)
      go none deep (steps _ q at (after_escaped double f g) full unmarked marks j) = absurd (cc g)
      go none deep (is_marked h j) = absurd (cc (none, simp append-nil at h))
      go none deep (is_shallow h j) = absurd (cc (h, limit p.col, deep))
  turns c b e is (has_blank f g) unlike s p m t stood =
      let none = white_stands single ctx start c b p.col (rw (f, g) refl) in
      elim (cases_Bool (t.leading && (c == 9) && nat_lt (p.col + 1) ctx.indent)) [
        | inl h ↦
            let parts = and_parts (t.leading && (c == 9)) (nat_lt (p.col + 1) ctx.indent) h in
            let low : nat_lt p.col least ≡ true = sym (limit p.col) ∙ parts.1 in
            fails TabAsIndentation p (inr (none, inr (inr (inr (b, ap (λ x. x ∷ b) (eqb-true c 9 (and_parts t.leading (c == 9) parts.0).1), opens s m p t false stood (λ e. refl) low, low, refl, refl))))) (rw (f, g, h) refl)
        | inr h ↦ goes gap (past p) _ (sym (past_is p c b f)) (blank_goes c s m p t stood) (blank_stands c s m p t stood h) none (rw (f, g, h) refl)
      ]
  turns c b e is (has_line f) unlike s p m t stood = goes gap _ (with_break t) refl (begins_here (break_leads t)) refl (white_stands single ctx start c b p.col (rw f refl)) (line_goes c b p t f)
  turns c b e is (has_escaped d a double same_c same_b f) unlike s p m t stood =
      rw (same_c, same_b)
      (started _ 92 (d ∷ a) s m p t slash_white stood (λ _. slash_no_quote single) fails (λ none deep i.
      goes after _ (with_escaped_break (joined t)) refl (escaped double refl) (deep_stands s p.col deep) none (i ∙ escaped_goes single ctx start double d a p (joined t) f)))

  -- ---- where no element stands

  closed_ends : (r : List ℕ) → ends_before single r ≡ true → Later (model.quote_of single ∷ r)
  closed_ends r ended s p m t stood = by s m stood
    where
      closed : (s : LineStand) → all_stand least s p.col (before_quote s) ≡ true → Closed single least start s p (model.quote_of single ∷ r) r (past p)
      closed s fit = arrived (record { is_quote = ap (λ q. q ∷ r) (same_quote single); fit = fit; end_is = refl })

      in_its_line : (s : LineStand) → Stood p t s gap → (s ≡ past_escaped → (model.quote_of single == quote_of single) ≡ false) → Ends s p (model.quote_of single ∷ r) (scan single ctx start (model.quote_of single ∷ r) gap p t)
      in_its_line s stood unlike =
          started _ (model.quote_of single) r s gap p t (quote_white single) stood unlike (λ why at w. refused why at (arrived w)) (λ none deep i. reads _ (closed s (grind (arith, and_false))) (i ∙ closes single ctx start r p (joined t) ended))

      by : (s : LineStand) (m : Mode) → Stood p t s m → Ends s p (model.quote_of single ∷ r) (scan single ctx start (model.quote_of single ∷ r) m p t)
      by s m (escaped double leads) = reads _ (closed past_escaped refl) (after_quote single ctx start (model.quote_of single) (model.quote_of single ∷ r) p t refl refl ∙ closes single ctx start r p t ended)
      by s m stood = in_its_line s stood (λ e. absurd (cc e))

  -- what is no closing quote is read after an escaped break as in a gap
  from_gap : (c : ℕ) (b : List ℕ) → (single ≡ false → (c == quote_of single) ≡ false) → (s : LineStand) (m : Mode) (p : Position) (t : Folded) → Stood p t s m → scan single ctx start (c ∷ b) m p t ≡ scan single ctx start (c ∷ b) gap p t
  from_gap c b unlike s m p t (escaped double leads) = after_gap single ctx start c (c ∷ b) p t refl (ap (λ q. c == q) (same_quote single) ∙ unlike double)
  from_gap c b unlike s m p t stood = refl

  bad_ends : single ≡ false → (r : List ℕ) → escape r ≡ None → Later (92 ∷ r)
  bad_ends double r bad s p m t stood =
      let from = from_gap 92 r (λ _. slash_no_quote single) s m p t stood in
      started _ 92 r s m p t slash_white stood (λ _. slash_no_quote single) (λ why at w i. refused why at (arrived w) (from ∙ i)) (λ none deep i.
      let z = escape_fails ctx start r p (joined t) bad in
      refused z.why start (arrived (inr (none, by_escape single least start s p r z.why double z.bad (rw (deep, and_false (begins_further s false)) refl)))) (from ∙ (i ∙ (grind arith))))

  unclosed_ends : Later []
  unclosed_ends s p m t stood = refused QuotedEnd start (arrived (inr (and_false (p.col == 0), inl (refl, refl, refl)))) (grind arith)

  none_ends : (c : ℕ) (b : List ℕ) → NoElement single c b → Later (c ∷ b)
  none_ends c b (closing e ended) = rw e (closed_ends b ended)
  none_ends c b (slash double e bad) = rw e (bad_ends double b bad)

  -- ---- each text

  by_element : (c : ℕ) (b : List ℕ) (o : Option Spelled) → element_of single c b ≡ o → (c == 0) ≡ false → ((n : ℕ) → Later (drop n b)) → Later (c ∷ b)
  by_element c b None is some later s p m t stood = none_ends c b (no_element single c b some is) s p m t stood
  by_element c b (Some e) is some later s p m t stood =
      let unlike : single ≡ false → (c == quote_of single) ≡ false = λ double. let i = rw double at is in rw double (no_quote c b e i) in
      let from = from_gap c b unlike s m p t stood in
      elim (turns c b e is (kind_of single c b e is) unlike s p m t stood) [
        | fails why at w i ↦ refused why at (arrived w) (from ∙ i)
        | goes n q u place there fit none i ↦ elim (later e.further (past_element s e.element) q n u there) [
          | refused why at h j ↦ refused why at (stepped c b e is fit none (rw (sym place) h)) (from ∙ (i ∙ j))
          | reads z w j ↦ reads z (stepped c b e is fit none (rw (sym place) w)) (from ∙ (i ∙ j))
        ]
      ]

  each_ends : (n : ℕ) (a : List ℕ) → list_all is_some a ≡ true → Later (drop n a)
  each_ends (suc n) (c ∷ b) full = each_ends n b (and_parts (is_some c) (list_all is_some b) full).1
  each_ends zero (c ∷ b) full = let q = and_parts (is_some c) (list_all is_some b) full in by_element c b (element_of single c b) refl (not-true (c == 0) q.0) (λ n. each_ends n b q.1)
  each_ends n a full = unclosed_ends

  -- the whole scalar, where it may begin
  pub whole_ends : nat_lt ((start.col + 1) + 1) ctx.indent ≡ false → (more : List ℕ) → list_all is_some more ≡ true → Ends within (past start) more (quoted single ctx (quote_of single ∷ more) start)
  unfolding quoted
  whole_ends low more full = subst (λ x. Ends within (past start) more x) (sym (first_is_gap single ctx start more (past start) (off_margin start.col 0) low)) (each_ends 0 more full within (past start) gap nothing (in_line (sym (limit (start.col + 1)) ∙ low)))

  -- what is read is a body whose lines are indented
  pub record IsBody (q : ℕ) (body : List ℕ) (x : Read (List ℕ)) : Type 0 where
    pub lines : quoted_lines_fit least (element_of single) (q ∷ (body ++ q ∷ [])) ≡ true
    pub end_is : x.position ≡ position_after start (q ∷ (body ++ q ∷ [])) x.rest

  is_body : (body : List ℕ) (x : Read (List ℕ)) → list_all is_some (body ++ quote_of single ∷ x.rest) ≡ true → quoted single ctx (quote_of single ∷ (body ++ quote_of single ∷ x.rest)) start ≡ Ok x → IsBody (quote_of single) body x
  unfolding quoted
  is_body body x full e = elim (cases_Bool (nat_lt ((start.col + 1) + 1) ctx.indent)) [ inl f ↦ absurd (fails body f e) | inr f ↦ by (whole_ends f (body ++ quote_of single ∷ x.rest) full) ]
    where
      fails : (body : List ℕ) → nat_lt ((start.col + 1) + 1) ctx.indent ≡ true → scan single ctx start (body ++ quote_of single ∷ x.rest) model.first (past start) nothing ≡ Ok x → ⊥
      fails [] f i = cc (i, first_fails single ctx start (quote_of single) x.rest (past start) (off_margin start.col 0) f)
      fails (c ∷ b) f i = cc (i, first_fails single ctx start c (b ++ quote_of single ∷ x.rest) (past start) (off_margin start.col 0) f)

      position_of : (position : Position) → position ≡ past (position_after (past start) body (quote_of single ∷ x.rest)) → position ≡ position_after start (quote_of single ∷ (body ++ quote_of single ∷ [])) x.rest
      position_of position h = grind (arith, nat_tests, eqb-true, past_is, position_after, past, start, body, quote_of, single, quote_no_break, position_append, after_quote_at)

      by : Ends within (past start) (body ++ quote_of single ∷ x.rest) (quoted single ctx (quote_of single ∷ (body ++ quote_of single ∷ x.rest)) start) → IsBody (quote_of single) body x
      by (refused why at h i) = absurd (cc (i, e))
      by (reads y w i) =
          let read : y ≡ x = cc (i, e) in
          let v = parted single least start _ within (past start) (body ++ quote_of single ∷ x.rest) w in
          let same : body ≡ v.body = append_cancel_right body v.body (quote_of single ∷ x.rest) (v.is_text ∙ ap (λ r. v.body ++ r) (v.holds.is_quote ∙ ap (λ (z : Read (List ℕ)). quote_of single ∷ z.rest) read)) in
          record {
            lines = rw (body_between (quote_of single) body, same, v.are) (lines_close least within (start.col + 1) v.es ∙ v.fits (before_quote (past_elements within v.es)) v.holds.fit);
            end_is = position_of x.position (cc (v.holds.end_is, read, same, v.holds.is_quote));
          }

  pub body_read : (body : List ℕ) (x : Read (List ℕ)) → list_all is_some (body ++ model.quote_of single ∷ x.rest) ≡ true → quoted single ctx (model.quote_of single ∷ (body ++ model.quote_of single ∷ x.rest)) start ≡ Ok x → IsBody (model.quote_of single) body x
  body_read body x = rw (same_quote single) (is_body body x)
