-- Where a plain scalar begins and is none, no row of the text goes on.
use Rattle.proof_scanner.proofs.Common.{is_marker, [], IsPlainFault, Problem, splits, append-nil, stand_after, is_gap, ◌⊎◌, inl, inr, Account, act_of, after_blank, and_parts, ap, append_assoc, are_marks, arith, before_by, before_past, begins_flow, begins_token, Bool, comes_plain, dashes, ends_with_content, ends_with_dash, false, flow_solid, goes_on, goes_over, has_dash_before_flow, innermost, is_adjacent, is_apart, is_at_gap, is_blanks, is_deep_enough, is_flow, is_in_flow, is_indented_by_spaces, is_nul, is_whole_plain, least_column, List, nat_lt, on_line, Option, or_true, plain_lines_fit, Position, previous_by, refl, same_flow, scalar, Site, site_at_place, site_past, Stand, stops, subst, sym, true, ℕ, ◌&&◌, ◌++◌, ◌∙◌, ◌∷◌, ◌≡◌, eqb-true, nat_tests, and_false, zero, ◌-◌, ◌+◌, ◌<◌, suc, length, has_break, further_on, has_tab_within, last_line, or-true, begins_separation, is_empty, kind_at, is_break, is_blank, tab_blank}
use Rattle.defs_token.specs.Plain.{inside, past}
use Rattle.proof_row.proofs.Plains.{plains}
use Rattle.proof_scanner.proofs.Refusals.OtherRows.{StepAt, IsClearGapAfter}
use Rattle.proof_scanner.proofs.Refusals.PiecesRefused.{Here, acct, whole_at, node_site_past, flow_is, node_site, node_stands, here_stood}
use Rattle.proof_row.proofs.Runs.{joined, neither}
use Rattle.proof_scanner.proofs.Refusals.Common.{tab_among, break_append, last_first, last_whole, plain_scalar, At, same_innermost, no_comment}
use Rattle.proof_scanner.proofs.Sound.PlainLines.{first_line, line_is, all_lines, feed_first, first_is, others_are}
use Rattle.defs_text.specs.Classes as classes
use Rattle.defs_token.specs.Account as pieces
use Rattle.defs_token.specs.Token as tokens
use Rattle.defs_token.specs.Step as steps
use Rattle.proof_scanner.specs.NoPiece as none

-- ---- the gap after it

pub stand_over : (s : Stand) (r g : List ℕ) → stand_after s (r ++ g) ≡ stand_after (stand_after s r) g
stand_over s [] g = refl
stand_over s (c ∷ r) g = stand_over (past s c) r g

-- after content stands content
pub stand_content : (s : Stand) (c : ℕ) (r : List ℕ) → ends_with_content c r ≡ true → stand_after (past s c) r ≡ inside
stand_content s c [] h = grind arith
stand_content s c (d ∷ r) h = stand_content (past s c) d r h

stand_inside : (d : ℕ) (r : List ℕ) → ends_with_content d r ≡ true → stand_after inside r ≡ inside
stand_inside d [] h = refl
stand_inside d (c ∷ r) h = stand_content inside c r h

-- a whole scalar has a character, and ends with content
whole_parts : (fl : Bool) (coll : Option ℕ) (piece next : List ℕ) → is_whole_plain fl coll piece next ≡ true → (d : ℕ) × (r : List ℕ) × (piece ≡ d ∷ r) × (ends_with_content d r ≡ true) × (stops fl coll inside next ≡ true)
whole_parts fl coll a next h = grind arith

-- ---- where one comes

-- where the dispatch looks for a plain scalar the text begins with one, or with a dash before another thing
comes_by : (fl adjacent : Bool) (column : ℕ) (text : List ℕ) → comes_plain fl adjacent column text ≡ true → (kind_at fl adjacent column text ≡ plain_scalar) ⊎ (kind_at fl adjacent column text ≡ dashes)
comes_by fl adjacent column text h = grind (arith, nat_tests)

-- the other thing is no document marker
pub no_marker : (fl adjacent : Bool) (column : ℕ) (text next : List ℕ) → comes_plain fl adjacent column text ≡ true → (45 ∷ 45 ∷ 45 ∷ next) ≡ text → column ≡ 0 → is_at_gap next ≡ true → ⊥
unfolding are_marks
no_marker fl adjacent column text next h e m g = grind (arith, nat_tests, eqb-true, and_parts)

-- ---- the lines from a position on

-- by what stands before it
abbrev lines_from : (column : ℕ) → Stand → List ℕ → Bool
lines_from column (on_line k) t = line_is k column (first_line t) && plain_lines_fit column t
lines_from column s t = plain_lines_fit column t

-- without its first blank a line is indented too
tab_less : (k column c : ℕ) (l : List ℕ) → has_tab_within (column - k) (c ∷ l) ≡ false → has_tab_within (column - suc k) l ≡ false
tab_less k column c l h = by (column - k) refl h
  where
    by : (n : ℕ) → column - k ≡ n → has_tab_within n (c ∷ l) ≡ false → has_tab_within (column - suc k) l ≡ false
    by zero e f = let none : column - suc k ≡ 0 = omega (arith, e) in rw none refl
    by (suc n) e f = let less : column - suc k ≡ n = omega (arith, e) in rw less (neither _ _ f).1

module _ (column : ℕ) (c : ℕ) (r : List ℕ) where
  line_goes : (s : Stand) → lines_from column s (c ∷ r) ≡ true → lines_from column (past s c) r ≡ true
  line_goes s h =
      let line_less : (k column c : ℕ) (l : List ℕ) → is_blank c ≡ true → line_is k column (c ∷ l) ≡ true → line_is (suc k) column l ≡ true = λ k column c l b h. grind (arith, nat_tests, eqb-true, tab_less) in
      grind (arith, nat_tests, eqb-true, feed_first, all_lines, line_is, first_line, others_are, and_parts, joined, line_less, first_is)

lines_go : (column : ℕ) (s : Stand) (before t : List ℕ) → lines_from column s (before ++ t) ≡ true → lines_from column (stand_after s before) t ≡ true
lines_go column s [] t h = h
lines_go column s (c ∷ before) t h = lines_go column (past s c) before t (line_goes column c (before ++ t) s h)

-- After a TAB that indents a line stand blanks alone.
pub tab_line : (column k : ℕ) (before z : List ℕ) → stand_after after_blank before ≡ on_line k → nat_lt k column ≡ true → plain_lines_fit column (before ++ 9 ∷ z) ≡ true → is_blanks (first_line z) ≡ true
unfolding is_break is_blank
tab_line column k before z stands low fit =
    let h : lines_from column (on_line k) (9 ∷ z) ≡ true = ap (λ s. lines_from column s (9 ∷ z)) (sym stands) ∙ lines_go column after_blank before (9 ∷ z) fit in
    let q : line_is k column (9 ∷ first_line z) ≡ true = ap (line_is k column) (sym (first_is column 9 z refl)) ∙ (and_parts (line_is k column (first_line (9 ∷ z))) (plain_lines_fit column (9 ∷ z)) h).0 in
    grind (arith, nat_tests, low, q)

blank_in_line : (c : ℕ) → is_blank c ≡ true → is_break c ≡ false
unfolding is_blank is_break
blank_in_line c h = grind (arith, h)

-- A line of blanks alone is no line with a token after its blanks.
pub blanks_end : (d : ℕ) (z blanks more next : List ℕ) → is_blank d ≡ true → ends_with_content d z ≡ true → is_blanks (first_line z) ≡ true → blanks ++ more ≡ z ++ next → is_blanks blanks ≡ true → begins_token more ≡ true → ⊥
blanks_end d (c ∷ z) (k ∷ blanks) more next b ends line e are token = grind (arith, nat_tests, eqb-true, and_parts, first_is, blank_in_line, blanks_end c z blanks more next)
blanks_end d a blanks more next b ends line e are token = grind arith

-- the end of a text is that of what it ends with
pub ends_later : (before : List ℕ) (c : ℕ) (r : List ℕ) (d : ℕ) (z : List ℕ) → c ∷ r ≡ before ++ d ∷ z → ends_with_content c r ≡ true → ends_with_content d z ≡ true
ends_later [] c r d z e h = let first : c ≡ d = cc e in let rest : r ≡ z = cc e in cc (h, first, rest)
ends_later (b ∷ before) c [] d z e h = absurd (nothing before (cc e))
  where
    nothing : (x : List ℕ) → [] ≡ x ++ d ∷ z → ⊥
    nothing [] f = cc f
    nothing (x ∷ a) f = cc f
ends_later (b ∷ before) c (x ∷ r) d z e h = ends_later before x r d z (cc e) h

-- ---- the gap after a scalar

-- where a scalar goes on over a text, and ends before it, the text is blanks and breaks
pub white_between : (fl : Bool) (coll : Option ℕ) (s : Stand) (q x : List ℕ) → goes_on fl coll s q x ≡ true → stops fl coll s (q ++ x) ≡ true → is_gap q ≡ true
white_between fl coll s [] x h k = refl
white_between fl coll s (c ∷ q) x h k = grind (arith, white_between fl coll (past s c) q x)

pub goes_later : (fl : Bool) (coll : Option ℕ) (s : Stand) (r q x : List ℕ) → goes_on fl coll s (r ++ q) x ≡ true → goes_on fl coll (stand_after s r) q x ≡ true
goes_later fl coll s [] q x h = h
goes_later fl coll s (c ∷ r) q x h = goes_later fl coll (past s c) r q x (further_on fl coll s c (r ++ q) x h).1

-- blanks are a gap on one line
blanks_gap : (l : List ℕ) → is_blanks l ≡ true → (is_gap l ≡ true) × (has_break l ≡ false)
blanks_gap [] h = (refl, refl)
blanks_gap (c ∷ l) h = grind (arith, blanks_gap l, blank_in_line)

pub gap_more : (q blanks : List ℕ) → is_gap q ≡ true → is_blanks blanks ≡ true → is_gap (q ++ 9 ∷ blanks) ≡ true
unfolding is_blank
gap_more [] blanks g b = (blanks_gap blanks b).0
gap_more (c ∷ q) blanks g b = grind (arith, gap_more q blanks)

-- whether a line's start and blanks stand before a position
abbrev is_on_line : Stand → Bool
is_on_line (on_line k) = true
is_on_line s = false

-- in a gap a line begins after a break alone
breaks_in : (s : Stand) (q : List ℕ) → is_on_line s ≡ false → is_on_line (stand_after s q) ≡ true → has_break q ≡ true
breaks_in s [] h k = absurd (cc (h, k))
breaks_in s (c ∷ q) h k = grind (arith, breaks_in (past s c) q)

column_is : (j k : ℕ) (q : List ℕ) → is_gap q ≡ true → has_break q ≡ false → stand_after (on_line j) q ≡ on_line k → j + length q ≡ k
column_is j k [] g n e = grind arith
column_is j k (c ∷ q) g n e = grind (arith, column_is (suc j) k q)

tab_in_last : (n k : ℕ) (s : Stand) (q blanks : List ℕ) → is_gap q ≡ true → is_blanks blanks ≡ true → k < n → has_break q ≡ true → stand_after s q ≡ on_line k → has_tab_within n (last_line (q ++ 9 ∷ blanks)) ≡ true
tab_in_last n k s [] blanks g b low br e = absurd (cc br)
tab_in_last n k s (c ∷ q) blanks g b low br e = grind (arith, nat_tests, eqb-true, last_first, and_parts, break_append, or-true, last_whole, (blanks_gap blanks b), (blank_in_line 9 tab_blank), column_is, tab_among, tab_in_last n k (past s c) q blanks)

-- A TAB in the gap after a scalar indents the line after it.
pub gap_tab : (n k : ℕ) (q blanks : List ℕ) → is_gap q ≡ true → is_blanks blanks ≡ true → nat_lt k n ≡ true → stand_after inside q ≡ on_line k → (has_break (q ++ 9 ∷ blanks) ≡ true) × (has_tab_within n (last_line (q ++ 9 ∷ blanks)) ≡ true)
gap_tab n k q blanks g b low e =
    let br : has_break q ≡ true = breaks_in inside q refl (ap is_on_line e) in
    (rw (break_append q (9 ∷ blanks), br) refl, tab_in_last n k inside q blanks g b (grind (arith, nat_tests, low)) br e)

-- ---- dashes

-- what goes on over a text and another one goes on over both
goes_both : (fl : Bool) (coll : Option ℕ) (s : Stand) (p q next : List ℕ) → goes_on fl coll s p (q ++ next) ≡ true → goes_on fl coll (stand_after s p) q next ≡ true → goes_on fl coll s (p ++ q) next ≡ true
goes_both fl coll s [] q next h k = k
goes_both fl coll s (c ∷ p) q next h k = grind (arith, nat_tests, eqb-true, and_parts, append_assoc, goes_both fl coll (past s c) p q next)

dash_goes : (coll : Option ℕ) (s : Stand) (next : List ℕ) → begins_flow next ≡ true → goes_on true coll s (45 ∷ []) next ≡ true
unfolding classes.is_blank classes.is_break classes.is_nul is_flow are_marks
dash_goes coll s a h = grind arith

flow_stops : (coll : Option ℕ) (s : Stand) (next : List ℕ) → begins_flow next ≡ true → stops true coll s next ≡ true
flow_stops coll s a h = grind (arith, stops, past, flow_solid, or_true)

content_end : (c : ℕ) (p : List ℕ) → ends_with_content c (p ++ 45 ∷ []) ≡ true
unfolding classes.is_blank classes.is_break
content_end c [] = refl
content_end c (d ∷ p) = content_end d p

ends_dashed : (s : Stand) (c : ℕ) (p : List ℕ) → is_apart (stand_after s (c ∷ p)) ≡ true → ends_with_dash (c ∷ (p ++ 45 ∷ [])) ≡ true
ends_dashed s c [] h = grind arith
ends_dashed s c (d ∷ []) h = ends_dashed (past s c) d [] h
ends_dashed s c (d ∷ e ∷ p) h = ends_dashed (past s c) d (e ∷ p) h

module _ {a : Account} {separation rest : List ℕ} {here : Position} (s : StepAt a separation rest here) (comes_here : comes_plain (is_in_flow a.entries) (is_adjacent (before_past (before_by a.site.before) separation)) here.col rest ≡ true) where
  abbrev seen_here : pieces.Account
  seen_here = acct s

  plain_here : Here s plain_scalar
  plain_here = elim (comes_by (pieces.is_in_flow seen_here) (is_adjacent seen_here.before) seen_here.position.col rest (grind arith)) [
    | inl k ↦ subst (Here s) k (whole_at s)
    | inr k ↦
        let m : Here s dashes = subst (Here s) k (whole_at s) in
        absurd (no_marker (pieces.is_in_flow seen_here) (is_adjacent seen_here.before) seen_here.position.col rest s.next (grind arith) (ap (λ p. p ++ s.next) (sym m.0.0) ∙ s.text_is) m.0.1 m.0.2)
  ]

  site_is : At s.account s.step s.next ≡ site_at_place a here
  site_is = node_site s (ap (λ t. is_marker (act_of t)) plain_here.2)

  -- its piece is whole
  whole : is_whole_plain (is_in_flow a.entries) (innermost (site_at_place a here).blocks) s.step.piece s.next ≡ true
  whole = grind (arith, flow_is, site_is, same_innermost, plain_here)

  -- The row's plain scalar is one, if no TAB indents what comes after it.
  pub no_plain_stands : IsClearGapAfter s → (why : Problem) (at : Position) → IsPlainFault (is_in_flow a.entries) (site_at_place a here).blocks here rest why at → ⊥
  -- its column in flow
  no_plain_stands is_clear why at (none.by_column flow left) =
      cc (ap (λ b. is_deep_enough b (scalar tokens.plain plain_here.0) (site_at_place a here)) flow ∙ left, (node_stands s (scalar tokens.plain plain_here.0) plain_here.2 refl).0)
  -- a dash before a flow indicator
  no_plain_stands is_clear why at (none.by_dash [] more flow cut begins over apart) =
      let wrong = rw (s.text_is ∙ cut, flow_is s ∙ flow, begins, and_false) at plain_here.1.0 in
      cc wrong
  no_plain_stands is_clear why at (none.by_dash (c ∷ p) more flow cut begins over apart) =
      let coll : Option ℕ = innermost (site_at_place a here).blocks in
      let own : is_whole_plain true coll (c ∷ (p ++ 45 ∷ [])) more ≡ true = rw (goes_both true coll inside p (45 ∷ []) more (ap (λ b. goes_on b coll inside p (45 ∷ more)) (sym flow) ∙ over) (dash_goes coll (stand_after inside p) more begins), content_end c p, flow_stops coll inside more begins) refl in
      let same : (s.step.piece ≡ c ∷ (p ++ 45 ∷ [])) × (s.next ≡ more) = plains true coll s.step.piece (c ∷ (p ++ 45 ∷ [])) s.next more (ap (λ b. is_whole_plain b coll s.step.piece s.next) (sym flow) ∙ whole) own (s.text_is ∙ (cut ∙ ap (λ r. c ∷ r) (sym (append_assoc p (45 ∷ []) more)))) in
      let dashed_there : has_dash_before_flow s.step.piece s.next ≡ true = rw (same.0, same.1, ends_dashed after_blank c p apart, begins) refl in
      let wrong = rw (plain_here.2, ← same_flow a.entries s.account.entries s.is_like.2, flow, dashed_there) at (here_stood s).precedes in
      cc wrong
  -- a TAB that indents a line of it, or the one after it
  no_plain_stands is_clear why at (none.by_tab before blanks more column cut over stands low are token) = elim (splits s.step.piece before s.next (9 ∷ (blanks ++ more)) (s.text_is ∙ cut)) [
    | inl m ↦
        let goes : goes_on fl coll inside (w.1 ++ m.more) (9 ∷ (blanks ++ more)) ≡ true = ap (λ b. goes_over fl coll b (9 ∷ (blanks ++ more))) (sym (m.longer ∙ ap (λ p. p ++ m.more) w.2)) ∙ over in
        in_gap m.more m.rest (ap (λ t. stand_after t m.more) (sym after) ∙ (sym (stand_over after_blank s.step.piece m.more) ∙ (ap (stand_after after_blank) (sym m.longer) ∙ stands)))
        (ap (λ t. goes_on fl coll t m.more (9 ∷ (blanks ++ more))) (sym (stand_inside w.0 w.1 w.3)) ∙ goes_later fl coll inside w.1 m.more (9 ∷ (blanks ++ more)) goes) w.4
    | inr m ↦ in_piece m.more m.longer m.rest
  ]
    where
      least : ℕ
      least = least_column (site_at_place a here).blocks true

      fl : Bool
      fl = is_in_flow a.entries

      coll : Option ℕ
      coll = innermost (site_at_place a here).blocks

      lines : plain_lines_fit least s.step.piece ≡ true
      lines = (node_stands s (scalar tokens.plain plain_here.0) plain_here.2 refl).1

      past_is : s.past.site ≡ site_past (is_in_flow s.account.entries) (At s.account s.step s.next) s.step.piece s.step.shown s.next (At s.account s.step s.next).blocks
      past_is = node_site_past s.account s.step s.next s.past (ap act_of plain_here.2) s.is_past

      before_is : s.past.site.before ≡ steps.plain_scalar
      before_is = ap (λ (x : Site). x.before) past_is ∙ ap previous_by plain_here.2

      -- or in the gap after it
      in_gap : (q : List ℕ) → s.next ≡ q ++ 9 ∷ (blanks ++ more) → stand_after inside q ≡ on_line column → goes_on fl coll inside q (9 ∷ (blanks ++ more)) ≡ true → stops fl coll inside s.next ≡ true → ⊥
      in_gap q e stand goes ends =
          -- what begins with a token is some text and no separation
          let token_begins : (begins_separation more ≡ false) × (is_empty more ≡ false) = grind (arith, token) in
          -- No TAB indents what comes after the gap, if a piece does: the next step of the row asks for that.
          let next_clear : (indent : ℕ) (bs gap : List ℕ) (aw : Bool) → is_gap gap ≡ true → least_column bs true ≡ indent → is_indented_by_spaces steps.plain_scalar bs aw gap ≡ true → has_break gap ≡ true → has_tab_within indent (last_line gap) ≡ false = λ indent bs gap aw white least h broken. grind (arith, no_comment, or-true) in
          let gap : is_gap q ≡ true = white_between fl coll inside q (9 ∷ (blanks ++ more)) goes (ap (stops fl coll inside) (sym e) ∙ ends) in
          let whole : is_gap (q ++ 9 ∷ blanks) ≡ true = gap_more q blanks gap are in
          let tab = gap_tab least column q blanks gap are low stand in
          let spaced : is_indented_by_spaces steps.plain_scalar s.past.site.blocks s.past.site.awaits (q ++ 9 ∷ blanks) ≡ true =
          subst (λ y. is_indented_by_spaces y s.past.site.blocks s.past.site.awaits (q ++ 9 ∷ blanks) ≡ true) before_is (is_clear before_is (q ++ 9 ∷ blanks) more (e ∙ sym (append_assoc q (9 ∷ blanks) more)) whole token_begins.0 token_begins.1) in
          cc (tab.1, next_clear least s.past.site.blocks (q ++ 9 ∷ blanks) s.past.site.awaits whole (ap (λ (x : Site). least_column x.blocks true) past_is ∙ ap (λ (x : Site). least_column x.blocks true) site_is) spaced tab.0)

      w : (d : ℕ) × (r : List ℕ) × (s.step.piece ≡ d ∷ r) × (ends_with_content d r ≡ true) × (stops fl coll inside s.next ≡ true)
      w = whole_parts fl coll s.step.piece s.next whole

      after : stand_after after_blank s.step.piece ≡ inside
      after = ap (stand_after after_blank) w.2 ∙ stand_content after_blank w.0 w.1 w.3

      -- in the piece
      in_piece : (z : List ℕ) → s.step.piece ≡ before ++ z → 9 ∷ (blanks ++ more) ≡ z ++ s.next → ⊥
      in_piece [] longer rest = cc (stands, ap (stand_after after_blank) (sym (append-nil before) ∙ sym longer), after)
      in_piece (x ∷ z) longer rest =
          let first : x ≡ 9 = cc rest in
          let cut : s.step.piece ≡ before ++ 9 ∷ z = longer ∙ ap (λ y. before ++ y ∷ z) first in
          blanks_end 9 z blanks more s.next tab_blank (ends_later before w.0 w.1 9 z (sym w.2 ∙ cut) w.3) (tab_line least column before z stands low (ap (plain_lines_fit least) (sym cut) ∙ lines)) (cc rest) are token
