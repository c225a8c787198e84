-- Faults of quoted scalars: a further line is not indented, or what stands after the scalar may not follow it.
use Rattle.proof_scanner.proofs.Common.{elements, inr, inl, cases_Bool, [], ap, append-nil, append_assoc, are_indented, AreNotIndented, arith, Arrives, At, begins_separation, begins_with, bodies_are_read, Bool, check_after_quoted, closed_first, content, Context, element_of, ends_before, Err, false, Fault, go_on, has_marker, has_no_nul, held_of, in_flow, is_breakz, is_document_marker, is_empty, IsBadEscape, IsQuoted, IsQuotedFault, lines_first, List, may_follow_quoted, nat_lt, no_quoted, node_start, not-true, off_margin, Ok, on_held, past, past_elements, peek, Position, position_after, Problem, quote_of, quoted, quoted_lines_fit, quoted_may_end, Read, refl, Result, ScannerState, skip_spaces, Some, sym, tab, true, unled, value_of, within, Yes, ℕ, ◌++◌, ◌+◌, ◌-◌, ◌==◌, ◌∙◌, ◌∷◌, ◌≡◌, further_lines_fit, lines_of, eqb-true, nat_tests, and_parts, CommentNotSeparated, ContentAfterQuoted, QuotedDocumentMarker, QuotedEnd, QuotedIndentation, TabAsIndentation, neither, subst, columns, has_break, has_open_level, may_not_stand, no_nul_after, quoted_scalar, skip_to_next_token, TabInBlockIndentation}
use Rattle.proof_lexers.specs.QuotedScan as scans
use Rattle.proof_scanner.proofs.Refusals.Common.{Faults, IsDeep, IsWhy, LiesDeep, QuotedAs, Told, Spaced, either, fault, followed_stuck, goes, in_turn, looked_at, none_begins, piece_of, saved_is, solid_past, some_chars, spaces_skipped, spaces_told, stuck_by, unglued, Checked, awaits_by, blocks_by, in_line, least_by, least_is, mapped, quoted_checked, same_has_break, stuck}
use Rattle.proof_scanner.proofs.Sound.QuotedBreaks.{same_limit, has_elements, body_between}
use Rattle.proof_scanner.proofs.Refusals.AfterQuoted.{check_passes, unglued as not_glued}
use Rattle.proof_scanner.proofs.Refusals.QuotedReasons.{not_closed, after_quote_at, all_stand, indented_are, is_marked, Wrong, Reason, Parted, parted, lines_close}
use Rattle.proof_scanner.specs.NoPiece as none
use Rattle.proof_scanner.specs.QuotedLines as lines
use Rattle.proof_scanner.proofs.Refusals.QuotedLines.{is_of_lines, refused, reads, whole_ends}
use Rattle.proof_scanner.proofs.Refusals.Passing.{TabStands, skip_refused}
use Rattle.proof_scanner.specs.Failing as defs

-- ---- texts

-- what was read between quotes is a quoted scalar
pub is_quoted : (single : Bool) (body next value : List ℕ) → value_of single body ≡ Some value → ends_before single next ≡ true → IsQuoted single (piece_of single body) next
is_quoted true body next value is ends = (value, (body, refl, is, not-true (begins_with 39 next) ends))
is_quoted false body next value is ends = (value, (body, refl, is))

-- ---- no scalar

-- what a quoted scalar is for the scan
record Bodied (single : Bool) (more piece next : List ℕ) : Type 0 where
  body : List ℕ
  value : List ℕ
  piece_is : piece ≡ none.quote_of single ∷ (body ++ none.quote_of single ∷ [])
  is_text : more ≡ body ++ none.quote_of single ∷ next
  value_is : value_of single body ≡ Some value
  ends : ends_before single next ≡ true

-- A text that the scan refuses, and not for its lines, begins with no quoted scalar.
pub none_quoted : (single : Bool) (ctx : Context) (more : List ℕ) (p : Position) (f : Fault) → quoted single ctx (none.quote_of single ∷ more) p ≡ Err f → is_of_lines f ≡ false → none.HasNoQuoted single (none.quote_of single ∷ more)
none_quoted single ctx more p f fails unlike piece next cut is =
    let b : Bodied single more piece next = grind (arith, nat_tests, eqb-true, append_assoc, cut, is) in
    let by : (b : Bodied single more piece next) (x : Result (Read (List ℕ)) Fault) → x ≡ Err f → scans.IsRead ctx p b.value next x → ⊥ = λ b x i a. grind arith in
    by b (quoted single ctx (quote_of single ∷ (b.body ++ quote_of single ∷ next)) p) (ap (λ q. quoted single ctx (q ∷ (b.body ++ q ∷ next)) p) (grind arith) ∙ (ap (λ r. quoted single ctx (none.quote_of single ∷ r) p) (sym b.is_text) ∙ fails)) (bodies_are_read single ctx b.body next b.value p b.value_is b.ends)

-- ---- the check

module _ {text : List ℕ} {t : ScannerState} (a : Arrives text t) (some : is_empty t.rest ≡ false) (lies : LiesDeep t) (single : Bool) (ctx : Context) (x : Read (List ℕ)) (q : QuotedAs single ctx t.held.position t.rest x) (same : ctx.indent ≡ t.held.indent) where
  -- after the closing quote
  abbrev pub closed : ScannerState
  closed = on_held unled (go_on x (node_start t.held))

  abbrev pub piece : List ℕ
  piece = piece_of single q.body

  pub is : IsQuoted single piece x.rest
  is = is_quoted single q.body x.rest x.value q.value_is q.ends

  -- its further lines are indented
  pub fits : closed_first single (t.held.indent - 1) piece
  fits = ap (λ n. quoted_lines_fit (n - 1) (element_of single) piece) (sym same) ∙ q.fits

  -- a comment right after the quote
  glued : begins_with 35 x.rest ≡ true → Told text (At CommentNotSeparated x.position)
  glued h =
      λ _. rw q.end_is
      (followed_stuck a some lies CommentNotSeparated (position_after t.held.position piece x.rest) (none.glued_to_quoted single piece x.rest q.cut is h) (λ c may. fits))

  may_not_end : (v : ScannerState) → Spaced Yes closed v → may_follow_quoted (in_flow v.held) (t.held.position.line == v.held.position.line) (peek v.rest) ≡ false → quoted_may_end (in_flow t.held) piece x.rest ≡ false
  may_not_end v s n = elim (cases_Bool (quoted_may_end (in_flow t.held) piece x.rest)) [
    | inl i ↦ absurd (cc (check_passes t.held.position piece closed v q.end_is (ap (λ b. quoted_may_end b piece x.rest) (ap in_flow (saved_is t.held)) ∙ i) s, n))
    | inr i ↦ i
  ]

  -- other text on its line
  followed_by : (v : ScannerState) → skip_spaces Yes closed ≡ Ok v → Spaced Yes closed v → may_follow_quoted (in_flow v.held) (t.held.position.line == v.held.position.line) (peek v.rest) ≡ false → Told text (At ContentAfterQuoted v.held.position)
  unfolding may_follow_quoted
  followed_by v e s n =
      -- what stands after blanks and may not follow, is no separation
      let solid_left : begins_separation v.rest ≡ false = solid_past v.rest s.ends (neither (is_breakz (peek v.rest)) _ n).0 in
      let end : Position = position_after t.held.position piece x.rest in
      let passed : List ℕ = s.blanks ++ s.comment in
      let place : v.held.position ≡ position_after end passed v.rest = ap (λ h. h.position) s.is_held ∙ ap (λ p. position_after p passed v.rest) q.end_is in
      λ _. rw place
      (followed_stuck a some lies ContentAfterQuoted (position_after end passed v.rest)
      (none.after_quoted single piece x.rest passed v.rest q.cut is (may_not_end v s n) (record { is_text = s.is_rest ∙ sym (append_assoc s.blanks s.comment v.rest); is_filled = s.is_filled; is_on_line = s.no_break })
      solid_left) (λ c may. (fits, held_of v (unglued Yes closed) e)))

  pub after_told : Faults (Told text) (check_after_quoted t.held.position.line closed)
  unfolding check_after_quoted
  after_told =
      in_turn (spaces_told text Yes closed glued) (λ v e.
      either (may_follow_quoted (in_flow v.held) (t.held.position.line == v.held.position.line) (peek v.rest)) (λ _. goes) (λ n. fault {f = At ContentAfterQuoted v.held.position} (followed_by v e (held_of v (spaces_skipped Yes closed) e) n)))

  -- ---- a TAB after a quoted scalar, on a later line, which would indent the next piece

  abbrev blocks : List ℕ
  blocks = columns t.held.indent t.held.indents

  abbrev awaits : Bool
  awaits = has_open_level t.held.indents

  module _ (v : ScannerState) (c : Checked piece closed v) where
    abbrev spaces : List ℕ
    spaces = c.spaces.blanks ++ c.spaces.comment

    no_break : has_break spaces ≡ false
    no_break = sym (same_has_break spaces) ∙ c.spaces.no_break

    tab_stuck : {f : Fault} → TabStands blocks awaits quoted_scalar x.position spaces v.rest v.held.position f → Told text f
    tab_stuck d =
        let gap : List ℕ = spaces ++ d.passed in
        let cut : x.rest ≡ gap ++ d.rest = c.spaces.is_rest ∙ (sym (append_assoc c.spaces.blanks c.spaces.comment v.rest) ∙ d.whole) in
        let end : Position = position_after t.held.position piece (gap ++ d.rest) in
        let place : position_after x.position gap d.rest ≡ position_after end gap d.rest = ap (λ p. position_after p gap d.rest) (q.end_is ∙ ap (λ r. position_after t.held.position piece r) cut) in
        rw d.is_fault (λ _. rw place
        (stuck a some [] TabInBlockIndentation (position_after end gap d.rest) (λ k may.
        record {
          fails = may_not_stand (defs.tab_after_quoted single piece gap d.rest (q.cut ∙ ap (λ r. piece ++ r) cut) (rw (sym cut) (is)) d.is_filled d.goes_on d.is_solid
              (rw (blocks_by a some k [], awaits_by a some k []) d.is_indented_by_tab));
          is_first = (looked_at a some lies k [], rw (least_by a some k []) (fits), rw (sym cut) (not_glued (in_flow closed.held) piece x.rest c.may_end));
        })))

    told : Faults (Told text) (skip_to_next_token v)
    told = mapped (λ f d. tab_stuck d) (skip_refused quoted_scalar blocks awaits x.position spaces v c.spaces.is_filled (ap (λ h. h.position) c.spaces.is_held) (grind (arith, nat_tests, eqb-true, least_is, saved_is)) (λ _. (inr (record { leading_is = λ i. ap (λ h. h.leading) c.spaces.is_held ∙ sym no_break; col_is = λ b. absurd (cc (b, no_break)); spaced = λ b. absurd (cc (b, no_break)) }))))

  -- what stands on the way to the next token after a quoted piece
  pub tab_told : (v : ScannerState) → check_after_quoted t.held.position.line closed ≡ Ok v → Faults (Told text) (skip_to_next_token v)
  tab_told v e =
      let clean : has_no_nul x.rest ≡ true = no_nul_after piece x.rest (subst (λ r. has_no_nul r ≡ true) q.cut a.is_clean) in
      told v (held_of v (quoted_checked t.held.position piece closed (in_line single q.body) clean q.end_is) e)

-- ---- a text that is refused

not_of_lines : (text : List ℕ) (why : Problem) (p : Position) → IsBadEscape text why → is_of_lines (At why p) ≡ false
not_of_lines text why p n = grind (arith, nat_tests, eqb-true)

module _ {text : List ℕ} {t : ScannerState} (a : Arrives text t) (some : is_empty t.rest ≡ false) (lies : LiesDeep t) where
  abbrev here : Position
  here = t.held.position

  abbrev least : ℕ
  least = t.held.indent - 1

  -- the quoted scalar that begins here is none
  lines_stuck : (single : Bool) (why : Problem) (at : Position) → AreNotIndented single least t.rest → (x : IsQuotedFault single least here t.rest why at) → lines_first single least here t.rest why at x → IsWhy text why at
  lines_stuck single why at none_fits x first =
      stuck_by a some why at (λ b bs k. (l : AreNotIndented single k t.rest) × (y : IsQuotedFault single k here t.rest why at) × lines_first single k here t.rest why at y) (none_fits, x, first)
      (λ c may m. record { fails = no_quoted single m.0 m.1; is_first = (looked_at a some lies c [], m.2) })

  module _ (deep : IsDeep t.held) (single : Bool) (ctx : Context) (same : ctx.indent ≡ t.held.indent) (more : List ℕ) (e : t.rest ≡ none.quote_of single ∷ more) where
    limit : (k : ℕ) → nat_lt (k + 1) ctx.indent ≡ nat_lt k least
    limit k = ap (λ n. nat_lt (k + 1) n) same ∙ same_limit k t.held.indent

    module _ (f : Fault) (fails : quoted single ctx (none.quote_of single ∷ more) here ≡ Err f) where
      none_there : is_of_lines f ≡ false → none.HasNoQuoted single t.rest
      none_there told = rw e (none_quoted single ctx more here f fails told)

      -- nor one whose lines are indented
      none_fits : (why : Problem) (at : Position) → (why ≡ QuotedDocumentMarker → ⊥) → Reason single least here within (past here) more why at → AreNotIndented single least t.rest
      none_fits why at unlike x piece next cut is = elim (cases_Bool (quoted_lines_fit least (element_of single) piece)) [
        | inl i ↦
            let b : Bodied single more piece next = grind (arith, nat_tests, eqb-true, append_assoc, (sym e ∙ cut), is) in
            let es = has_elements single b.body b.value b.value_is in
            let whole : quoted_lines_fit least (element_of single) (none.quote_of single ∷ (b.body ++ none.quote_of single ∷ [])) ≡ true = ap (quoted_lines_fit least (element_of single)) (sym b.piece_is) ∙ i in
            let fit : further_lines_fit least (lines_of es.0) ≡ true = rw (body_between (none.quote_of single) b.body, es.1) at whole in
            absurd (not_closed single least here within (past here) b.body next es.0 b.ends es.1 (sym (lines_close least within (past here).col es.0) ∙ fit) why at unlike (rw (sym b.is_text) x))
        | inr i ↦ i
      ]

      -- what is wrong with the text after the quote is what the whole text is stuck by
      told_by : (why : Problem) (at : Position) → At why at ≡ f → Reason single least here within (past here) more why at → IsWhy text why at
      told_by why at is w = of why at is w x.holds
        where
          x : Parted single least here (λ t q y. Wrong single least here t q y why at) within (past here) more
          x = parted single least here _ within (past here) more w

          indented : are_indented least x.es ≡ true
          indented = indented_are least within (past here).col x.es ∙ (ap (all_stand least within (past here).col) (sym (append-nil x.es)) ∙ x.fits [] refl)

          marks : (b : Bool) → is_marked (position_after (past here) x.body x.rest) x.rest ≡ b → has_marker x.body x.rest ≡ b
          marks b h = rw (off_margin here.col 0) at (x.marks ∙ h)

          of : (why : Problem) (at : Position) → At why at ≡ f → Reason single least here within (past here) more why at → Wrong single least here (past_elements within x.es) (position_after (past here) x.body x.rest) x.rest why at → IsWhy text why at
          of why at is w (inl h) =
              rw (h.1, h.2) (none_begins a some lies QuotedDocumentMarker _
              (none.unquoted single more QuotedDocumentMarker e (none_there (ap is_of_lines (sym is) ∙ rw h.1 refl)) (none.by_marker x.body x.rest x.is_text (x.es, x.are) (marks true h.0)))
              ((and_parts ((position_after (past here) x.body x.rest).col == 0) (is_document_marker x.rest) h.0).1, indented))
          of why at is w (inr (free, inl (ends, why_is, at_is))) =
              let all : more ≡ x.body = x.is_text ∙ (ap (λ r. x.body ++ r) ends ∙ append-nil x.body) in
              rw (why_is, at_is) (none_begins a some lies QuotedEnd _
              (none.unquoted single more QuotedEnd e (none_there (ap is_of_lines (sym is) ∙ rw why_is refl)) (none.by_end (x.es, subst (λ b. elements (element_of single) 0 b ≡ Some x.es) (sym all) x.are)))
              (ap (λ b. has_marker b []) all ∙ (ap (λ r. has_marker x.body r) (sym ends) ∙ marks false free), indented))
          of why at is w (inr (free, inr (inl (next, double, cut, bad, may, lacks, is_problem, at_is)))) =
              rw at_is (none_begins a some lies why _
              (none.unquoted single more why e (none_there (ap is_of_lines (sym is) ∙ not_of_lines next why at bad)) (none.by_escape x.body next why double (x.is_text ∙ ap (λ r. x.body ++ r) cut) (x.es, x.are) bad))
              (rw (← cut) (marks false free), indented_are least within (past here).col (x.es ++ content 92 ∷ []) ∙ x.fits (content 92 ∷ []) may))
          of why at is w (inr (free, inr (inr (inl (solid, further, low, why_is, at_is))))) =
              rw (why_is, at_is) (lines_stuck single QuotedIndentation here (none_fits why at (λ k. absurd (cc (k, why_is))) w)
              (lines.by_column x.body x.rest x.es (e ∙ ap (λ r. none.quote_of single ∷ r) x.is_text) x.are solid further (ap (λ (q : Position). nat_lt q.col least) (after_quote_at single here x.body x.rest) ∙ low))
              (marks false free, indented))
          of why at is w (inr (free, inr (inr (inr (next, cut, further, low, why_is, at_is))))) =
              let same_place : position_after (past here) x.body x.rest ≡ position_after here (none.quote_of single ∷ x.body) (tab ∷ next) = sym (after_quote_at single here x.body x.rest) ∙ ap (λ r. position_after here (none.quote_of single ∷ x.body) r) cut in
              rw (why_is, at_is ∙ same_place)
              (lines_stuck single TabAsIndentation (position_after here (none.quote_of single ∷ x.body) (tab ∷ next)) (none_fits why at (λ k. absurd (cc (k, why_is))) w)
              (lines.by_tab x.body next x.es (e ∙ ap (λ r. none.quote_of single ∷ r) (x.is_text ∙ ap (λ r. x.body ++ r) cut)) x.are further (ap (λ (q : Position). nat_lt q.col least) (sym same_place) ∙ low))
              (rw (← cut) (marks false free), indented))

    pub refused_told : has_no_nul more ≡ true → (f : Fault) → quoted single ctx (none.quote_of single ∷ more) here ≡ Err f → Told text f
    refused_told clean f fails = elim (whole_ends single ctx here least limit (grind (arith, nat_tests, deep, same)) more (some_chars more clean)) [
      | reads y w i ↦ absurd (cc (i, fails))
      | refused why at h i ↦ let is : At why at ≡ f = cc (i, fails) in rw (sym is) (λ _. told_by f fails why at is h)
    ]
