-- Faults of indicators, markers and directives.
use Rattle.proof_scanner.proofs.Common.{GoesOn, with_top, [], allow_key, and_false, and_parts, ap, append_assoc, arith, Arrives, At, begin_flow, begin_key, begin_keyless_mapping, begin_keyless_value, begin_line, begin_pair, begins_free_line, begins_with, begins_with_alpha, begins_with_space_or_break, blanks_and_comment, Bool, check_after_tab, check_block_entry, check_dash, check_document_end, check_key_space, check_value_space, chosen, closed_key, Collection, colon_may_precede, deepened_flow, directive_of, directives_end, end_entry, end_flow, ended_flow, entries_by, Entry, eqb-true, false, Fault, fetch_block_entry, fetch_directive, fetch_document_end, fetch_document_marker, fetch_flow_collection_end, fetch_flow_collection_start, fetch_flow_entry, fetch_key, fetch_value, followed_first, free, further, go_on, has, has_no_break, Held, held_of, Holds, in_flow, increase_flow_level, inl, inr, insert_key, is_alphanumeric, is_at_gap, is_blank, is_blank_or_breakz, is_breakz, is_empty, is_free, is_full, is_one_of, is_required, is_separation, is_taken, is_taken_line, is_value, is_value_here, IsDirectiveRefusal, IsFollowed, Key, leading, length, lexed, line_by, line_past_separation, List, may_ask, may_not_stand, MayChoose, nat_le, nat_lt, nat_tests, next_entry, No, no_key, None, not, not-false, not-true, Ok, on_held, opens, opens_pair, Option, or_true, OutOfMemory, outside_key, paired, pass_indicator, past, past_blanks_and_comment, past_line_rest, peek, Position, position_after, Problem, Read, refl, refused_as, remove_implicit_key, roll_entry, roll_indent, roll_one_col_indent, same_alpha, ScannerState, skip_indicator, skip_yaml_whitespace, slice_index, Some, space, subst, suc, sym, taken, takes_pair, Tok, top_key, true, try_held, unroll_indent, waits, white, Whitespace, Yes, ℕ, ◌&&◌, ◌++◌, ◌-◌, ◌==◌, ◌||◌, ◌∙◌, ◌∷◌, ◌≡◌, ◌≤◌, ◌⊎◌, append-nil, comment_of, is_break, is_decimal_digit, is_letter, is_on_line, past_comment, deepen, drop_open_level, BlockEntryInFlow, BlockEntryNotAllowed, ColonMisplaced, CommentNotSeparated, ContentAfterDocumentEnd, FlowTooDeep, KeyExpected, KeyNotAllowed, TabAfterColon, TabAfterDash, TabAfterKey, ValueNotAllowed, WhitespaceExpected}
use Rattle.model_scanner.specs.Directive.{directive}
use Rattle.model_scanner.specs.Block.{value_of}
use Rattle.proof_scanner.proofs.Refusals.Common.{knowing, known_turn, held_exactly, Spaced, begins_here, gap_here, no_entries, no_tab_in, not_at_end, past_white, past_white_space, same_has_break, saved_is, saved_keys, spaced, spaces_skipped, value_is, white_cut, white_exactly, white_first, white_of, white_or_missed, is_alpha, after, key_removed}
use Rattle.proof_scanner.proofs.Sound.DocumentLines.{line_begun}
use Rattle.proof_scanner.proofs.Sound.Blanks.{same_in_line, line_rest_in_line, line_rest_cut, line_rest_fills, found_in, spaced_parted}
use Rattle.proof_scanner.proofs.Refusals.Places.{Faults, fault, goes, read, in_turn, tried, checked, either, kept, IsRowless, Told, LiesDeep, rowless_told, account_by, place, many_levels, IsAllowed, stuck, in_flow_is, looked_at, none_begins, followed_stuck, white_goes, space_told, spaces_told, no_comment, no_comment_left, solid_past}
use Rattle.proof_scanner.proofs.Refusals.KeysThatWait.{not_required, line_rowless, closing_rowless, none_waits}
use Rattle.proof_scanner.proofs.Sound.ColonSpaces.{past_colon, colon_spaced}
use Rattle.proof_scanner.proofs.Sound.FlowMarks.{flow_over, entry_over}
use Rattle.proof_scanner.proofs.Refusals.PiecesRefused.{among}
use Rattle.defs_text.specs.Classes as classes
use Rattle.defs_text.specs.Tags as tags
use Rattle.defs_token.specs.FlowEntry as entry
use Rattle.model_scanner.proofs.Holds as holds
use Rattle.proof_scanner.proofs.Sound.Questions.{entry_checked as entry_outside}
use Rattle.proof_lexers.specs.DirectiveEnds as directives
use Rattle.proof_scanner.proofs.Sound.Arrivals as arrivals
use Rattle.proof_scanner.specs.NoPiece as none
use Rattle.proof_scanner.specs.Failing as defs

-- ---- levels of indentation

-- the position and the open keys stay
abbrev pub Stays : Held → Held → Type 0
Stays u s = (u.position ≡ s.position) × (u.keys ≡ s.keys)

rolled_one_stays : (s : Held) → Stays (roll_one_col_indent s) s × ((roll_one_col_indent s).flow ≡ s.flow)
unfolding roll_one_col_indent
rolled_one_stays s = grind arith

pub rolled_stays : (col : ℕ) (number : Option ℕ) (tok : Tok) (p : Position) (s : Held) → Stays (roll_indent col number tok p s) s
unfolding roll_indent drop_open_level deepen
rolled_stays col number tok p s = grind arith

pub unrolled_stays : (limit : ℕ) (s : Held) → Stays (unroll_indent limit s) s
unfolding unroll_indent
unrolled_stays limit s = grind arith

-- ---- the blanks after a colon: TABs alone, where a letter stands after blanks and a comment without a space among the blanks

-- a line ends with no letter
line_end : (l : List ℕ) → begins_with_alpha (tags.after is_on_line l) ≡ false
unfolding is_break classes.is_alpha is_decimal_digit is_letter
line_end [] = refl
line_end (d ∷ l) = grind (arith, line_end l)

-- before a letter stand the blanks alone, so no space where none is among them
pub no_space : (blanks b : List ℕ) → is_one_of blanks 32 ≡ false → begins_with_alpha (past_comment b) ≡ true → has 32 (blanks ++ comment_of b) ≡ false
no_space blanks b h letter = grind (arith, among, line_end, append-nil)

-- ---- keys that must be one

remove_told : (text : List ℕ) (s : Held) → (is_required (top_key s.keys) ≡ true → IsRowless text) → Faults (Told text) (remove_implicit_key s)
unfolding remove_implicit_key
remove_told text s rowless = rowless_told text (is_required (top_key s.keys)) KeyExpected s.position _ refl rowless

line_told : (text : List ℕ) (s : Held) → (is_required (top_key s.keys) ≡ true → IsRowless text) → Faults (Told text) (begin_line s)
unfolding begin_line
line_told text s rowless = kept closed_key (λ e. refl) (λ x. goes) (remove_told text (unroll_indent 0 s) (λ must. rowless (ap (λ ks. is_required (top_key ks)) (sym (unrolled_stays 0 s).1) ∙ must)))

-- ---- positions

line_stays : (t : ScannerState) → Holds (λ u. (u.rest ≡ t.rest) × (u.held.position ≡ t.held.position)) (try_held begin_line t)
line_stays t = holds.tried t (begin_line t.held) (line_begun t.held (unroll_indent 0 t.held) refl) (λ s k. (refl, ap (λ h. h.position) k.0 ∙ (unrolled_stays 0 t.held).0))

module _ {text : List ℕ} {t : ScannerState} (a : Arrives text t) (some : is_empty t.rest ≡ false) (lies : LiesDeep t) where
  -- ---- lines for the document

  line_refused : (line next : List ℕ) → t.held.position.col ≡ 0 → t.rest ≡ 37 ∷ (line ++ next) → has_no_break line ≡ true → directives.ends_line next ≡ true → directive_of (37 ∷ line) ≡ None → (f : Fault) → IsDirectiveRefusal t.held.position line f → Told text f
  line_refused line next col e one ends lacks OutOfMemory r = elim r [ ]
  line_refused line next col e one ends lacks (At why q) r = λ _. none_begins a some lies why q (none.undirected line next why q col e one ends lacks r) tt

  pub directive_told : (more : List ℕ) → t.rest ≡ 37 ∷ more → t.held.position.col ≡ 0 → Faults (Told text) (fetch_directive t)
  unfolding fetch_directive
  directive_told more e col =
      knowing (line_stays t) (tried t (line_told text t.held (line_rowless a some col))) (λ u s.
      read u.held (directive u.rest u.held.position) _
      (λ f j. elim (refused_as (ap (λ r. directive r t.held.position) (sym (s.0 ∙ e)) ∙ (ap (λ q. directive u.rest q) (sym s.1) ∙ j)) (directives_end more t.held.position)) [
        | directives.no_directive line next cut one ends lacks why ↦ line_refused line next col (e ∙ ap (λ r. 37 ∷ r) cut) one ends lacks f why
      ]) (λ x j. goes))

  pub marker_told : (tok : Tok) → t.held.position.col ≡ 0 → Faults (Told text) (fetch_document_marker tok t)
  unfolding fetch_document_marker
  marker_told tok col = in_turn (tried t (line_told text t.held (line_rowless a some col))) (λ u e. goes)

  -- ---- what follows

  -- a fault at the end of what was passed on the line
  followed_at : (why : Problem) (q : Position) (p : Position) (passed content : List ℕ) → q ≡ position_after p passed content
      → (x : IsFollowed (in_flow t.held) t.held.position t.rest why (position_after p passed content))
      → ((c : Bool) → IsAllowed a some c → followed_first (in_flow t.held) (t.held.indent - 1) (is_taken (account_by a some c []) a.separation) (is_full (account_by a some c [])) t.held.position t.rest why (position_after p passed content) x) → Told text (At why q)
  followed_at why q p passed content e x first = λ _. rw e (followed_stuck a some lies why (position_after p passed content) x first)

  end_checked : (u v : ScannerState) (more : List ℕ) → t.rest ≡ 46 ∷ 46 ∷ 46 ∷ more → is_at_gap more ≡ true → t.held.position.col ≡ 0 → (u.rest ≡ more) × (u.held.position ≡ further 3 t.held.position) → Spaced Yes u v → Faults (Told text) (check_document_end v)
  unfolding check_document_end
  end_checked u v more e gap col m s =
      either (is_breakz (peek v.rest)) (λ _. goes) (λ i.
      fault {f = At ContentAfterDocumentEnd v.held.position} (followed_at ContentAfterDocumentEnd v.held.position (further 3 t.held.position) (s.blanks ++ s.comment) v.rest
      (ap (λ h. h.position) s.is_held ∙ ap (λ q. position_after q (s.blanks ++ s.comment) v.rest) m.1)
      (none.after_end more (s.blanks ++ s.comment) v.rest col e gap (record { is_text = sym m.0 ∙ (s.is_rest ∙ sym (append_assoc s.blanks s.comment v.rest)); is_filled = s.is_filled; is_on_line = s.no_break }) (not_at_end v.rest i) (solid_past v.rest s.ends i)) (λ c may. tt)))

  pub document_end_told : (more : List ℕ) → t.rest ≡ 46 ∷ 46 ∷ 46 ∷ more → is_at_gap more ≡ true → t.held.position.col ≡ 0 → Faults (Told text) (fetch_document_end t)
  unfolding fetch_document_end fetch_document_marker
  document_end_told more e gap col =
      let marked_state : Holds (λ u. (u.rest ≡ more) × (u.held.position ≡ further 3 t.held.position)) (fetch_document_marker Tok.document_end t) = holds.chained (line_stays t) (λ u s. holds.went (ap (λ r. after (after (after r))) (s.0 ∙ e), ap (λ p. past (past (past p))) s.1 ∙ (grind arith))) in
      knowing marked_state (marker_told Tok.document_end col) (λ u m.
      knowing (spaces_skipped Yes u) (spaces_told text Yes u (λ h. absurd (cc (h, ap (λ r. begins_with 35 r) m.0, no_comment more gap)))) (λ v s. end_checked u v more e gap col m s))

  -- ---- what may begin

  is_outside : in_flow t.held ≡ false → is_empty t.held.flow ≡ true
  is_outside e = not-false (is_empty t.held.flow) e

  abbrev broken : Bool
  broken = begins_free_line a.base.site.before a.separation

  line_taken : (c : Bool) (cs : List Bool) → IsAllowed a some c → is_empty t.held.flow ≡ true → t.held.key_allowed ≡ false → is_taken (chosen c cs t.held.keys a.base) a.separation ≡ true
  line_taken c cs h e f =
      let outer_line : is_empty t.held.flow ≡ true → line_past_separation false broken a.base.line ≡ Some a.line_here = λ out. subst (λ b. line_past_separation (not b) broken a.base.line ≡ Some a.line_here) out a.is_line in
      grind (arith, nat_tests, eqb-true, arrivals.not_free, arrivals.unbroken, some, is_taken_line, line_past_separation, line_by, outer_line, waits, outside_key, not, free, taken, is_free)

  line_not_taken : (c : Bool) (cs : List Bool) → IsAllowed a some c → is_empty t.held.flow ≡ true → t.held.key_allowed ≡ true → is_taken (chosen c cs t.held.keys a.base) a.separation ≡ false
  line_not_taken c cs may out allowed = grind arith

  -- where a `?` is not refused it may stand
  asks : (in_flow t.held || t.held.key_allowed) ≡ true → (c : Bool) → IsAllowed a some c → may_ask (in_flow t.held) (is_taken (account_by a some c []) a.separation) ≡ true
  asks h c may = grind (arith, text, t, some, line_not_taken, is_outside)

  -- a colon that the scanner takes as a value's is an indicator
  value_here : (more : List ℕ) → t.rest ≡ 58 ∷ more → is_value t ≡ true → (c : Bool) (cs : List Bool) → is_value_here (chosen c cs t.held.keys a.base) a.separation more ≡ true
  value_here more e i c cs = grind (arith, nat_tests, eqb-true, in_flow_is, value_is)

  -- ---- `-`, `?` and `:`

  entry_checked : (more : List ℕ) → t.rest ≡ 45 ∷ more → is_at_gap more ≡ true → Faults (Told text) (check_block_entry t.held)
  unfolding check_block_entry
  entry_checked more e gap =
      checked (in_flow t.held) (At BlockEntryInFlow t.held.position)
      (λ i _. stuck a some [] BlockEntryInFlow t.held.position (λ c may. record { fails = may_not_stand (defs.dash_in_flow more e gap (in_flow_is a some c [] ∙ i)); is_first = looked_at a some lies c [] })) (λ o.
      checked (not t.held.key_allowed) (At BlockEntryNotAllowed t.held.position)
      (λ n _. stuck a some [] BlockEntryNotAllowed t.held.position (λ c may.
      record { fails = may_not_stand (defs.dash_not_free more e gap (in_flow_is a some c [] ∙ o) (line_taken c [] may (is_outside o) (not-true t.held.key_allowed n))); is_first = looked_at a some lies c [] })) (λ _. goes))

  -- a character of a text stands in it with more after it
  has_more : (b c : List ℕ) → is_one_of b 9 ≡ true → has 9 (b ++ c) ≡ true
  has_more [] c h = absurd (cc h)
  has_more (d ∷ b) c h = grind (arith, has_more b c)

  -- what stands on the line after an indicator
  line_goes_on : (more : List ℕ) → GoesOn more (blanks_and_comment more) (past_blanks_and_comment more)
  line_goes_on more = record { is_text = line_rest_cut more; is_filled = line_rest_fills more; is_on_line = same_has_break (blanks_and_comment more) ∙ ap not (line_rest_in_line more) }

  line_place : (p : Position) (more : List ℕ) → p ≡ past t.held.position → past_line_rest p more ≡ position_after (further 1 t.held.position) (blanks_and_comment more) (past_blanks_and_comment more)
  line_place p more place = same_in_line p (blanks_and_comment more) [] (past_blanks_and_comment more) (line_rest_in_line more) ∙ ap (λ q. position_after q (blanks_and_comment more) (past_blanks_and_comment more)) place

  line_read : (more : List ℕ) (p : Position) (x : Read Whitespace) → begins_with 35 more ≡ false → space Yes more p ≡ Ok x → record { rest = past_blanks_and_comment more; position = past_line_rest p more; value = found_in (leading is_blank more) } ≡ x
  line_read more p x none k = let exact = spaced_parted more p none in cc (exact, k)

  dash_checked : (more : List ℕ) → t.rest ≡ 45 ∷ more → is_at_gap more ≡ true → in_flow t.held ≡ false → t.held.key_allowed ≡ true → (h : Held) → h.position ≡ past t.held.position → (x : Read Whitespace) → space Yes more h.position ≡ Ok x → Faults (Told text) (check_dash x.value (go_on x h))
  unfolding check_dash
  dash_checked more e gap outside allowed h place x k =
      let rest : List ℕ = past_blanks_and_comment more in
      rw (sym (line_read more h.position x (no_comment more gap) k))
      (checked (is_one_of (leading is_blank more) 9 && (slice_index rest 0 == 45) && is_blank_or_breakz (slice_index rest 1)) (At TabAfterDash (past_line_rest h.position more)) (λ all.
      let second = and_parts (is_one_of (leading is_blank more) 9 && (slice_index rest 0 == 45)) (is_blank_or_breakz (slice_index rest 1)) all in
      let first = and_parts (is_one_of (leading is_blank more) 9) (slice_index rest 0 == 45) second.0 in
      followed_at TabAfterDash _ (further 1 t.held.position) (blanks_and_comment more) rest (line_place h.position more place)
      (none.tab_after_dash more (blanks_and_comment more) rest outside e gap (line_goes_on more) (has_more (leading is_blank more) _ first.0) (grind (arith, nat_tests, eqb-true, gap_here, first.1, second.1))) (λ c may. line_not_taken c [] may (is_outside outside) allowed)) (λ _. goes))

  pub dash_told : (more : List ℕ) → t.rest ≡ 45 ∷ more → is_at_gap more ≡ true → Faults (Told text) (fetch_block_entry t)
  unfolding fetch_block_entry roll_entry check_dash
  dash_told more e gap =
      -- no comment stands after what was passed behind a dash
      let dash_spaced : (u : ScannerState) → Holds (λ v. (begins_with 35 v.rest ≡ false) × (v.held.keys ≡ u.held.keys)) (lexed (space Yes u.rest u.held.position) u.held check_dash) = λ u. grind (arith, nat_tests, eqb-true, spaced, check_dash, begins_with, holds.checked, slice_index, is_blank_or_breakz, TabAfterDash, holds.went, no_comment_left) in
      known_turn _ (held_exactly t (entry_outside t.held)) (tried t (entry_checked more e gap)) (λ was.
      let rolled : ScannerState = on_held (roll_indent t.held.position.col None Tok.block_sequence_start t.held.position) (skip_indicator t) in
      let stays = rolled_stays t.held.position.col None Tok.block_sequence_start t.held.position (skip_indicator t).held in
      let left : rolled.rest ≡ more = ap after e in
      knowing (dash_spaced rolled) (read rolled.held (space Yes rolled.rest rolled.held.position) check_dash (λ f k. space_told text Yes rolled.rest rolled.held.position (λ h. absurd (cc (h, ap (λ r. begins_with 35 r) left, no_comment more gap))) f k)
      (λ x k. dash_checked more e gap was.0 was.1 rolled.held stays.0 x (ap (λ r. space Yes r rolled.held.position) (sym left) ∙ k)))
      (λ v spaced_on. knowing (spaces_skipped No v) (spaces_told text No v (λ h. absurd (cc (h, spaced_on.0)))) (λ w skipped.
      let keys : (roll_entry w).held.keys ≡ t.held.keys = (grind (arith, rolled_one_stays)) ∙ (ap (λ h. h.keys) skipped.is_held ∙ (spaced_on.1 ∙ stays.1)) in
      in_turn (tried (roll_entry w) (remove_told text (roll_entry w).held (λ must. absurd (cc (must, ap (λ ks. is_required (top_key ks)) keys, not_required a some (ap (λ b. in_flow t.held || b) was.1 ∙ or_true (in_flow t.held))))))) (λ x l. goes))))

  key_begun : (more : List ℕ) → t.rest ≡ 63 ∷ more → is_at_gap more ≡ true → Faults (Told text) (begin_key t.held)
  unfolding begin_key
  key_begun more e gap =
      either (in_flow t.held) (λ _. goes) (λ o.
      checked (not t.held.key_allowed) (At KeyNotAllowed t.held.position)
      (λ n _. stuck a some [] KeyNotAllowed t.held.position (λ c may.
      record { fails = may_not_stand (defs.question_not_free more e gap (in_flow_is a some c [] ∙ o) (line_taken c [] may (is_outside o) (not-true t.held.key_allowed n))); is_first = looked_at a some lies c [] })) (λ _. goes))

  white_told : (in_flow t.held || t.held.key_allowed) ≡ true → (more : List ℕ) → t.rest ≡ 63 ∷ more → is_at_gap more ≡ true → (u : ScannerState) → u.rest ≡ more → u.held.position ≡ past t.held.position → Faults (Told text) (skip_yaml_whitespace u)
  unfolding skip_yaml_whitespace
  white_told asked more e gap u left place = elim (white_or_missed more u.held gap) [
    | inl begins ↦ rw (white_goes u (ap begins_with_space_or_break left ∙ begins)) goes
    | inr m ↦
        rw (ap (λ r. white false false r u.held) left ∙ m.is_refused) (fault {f = At WhitespaceExpected u.held.position}
        (followed_at WhitespaceExpected u.held.position (further 1 t.held.position) [] more place
        (none.no_space more [] more e gap (record { is_text = refl; is_filled = refl; is_on_line = refl }) m.no_space m.ends) (λ c may. (asks asked c may, refl))))
  ]

  space_checked : (in_flow t.held || t.held.key_allowed) ≡ true → (more : List ℕ) → t.rest ≡ 63 ∷ more → is_at_gap more ≡ true → (u w : ScannerState) → u.rest ≡ more → u.held.position ≡ past t.held.position → skip_yaml_whitespace u ≡ Ok w → Faults (Told text) (check_key_space w)
  unfolding skip_yaml_whitespace check_key_space
  space_checked asked more e gap u w left place k =
      let tab_first : (r : List ℕ) → (peek r == 9) ≡ true → r ≡ 9 ∷ after r = λ r h. grind arith in
      let exact : (w ≡ past_white_space u) × (is_separation false (white_of false u.rest) (past_white false u.rest) ≡ true) = held_of w (white_exactly u) k in
      let begins : begins_with_space_or_break more ≡ true = held_of w (white_first more u.held gap) (ap (λ r. white false false r u.held) (sym left) ∙ k) in
      let separation : List ℕ = white_of false u.rest in
      let rest : List ℕ = past_white false u.rest in
      rw exact.0 (checked (peek rest == 9) (At TabAfterKey (position_after u.held.position separation rest)) (λ tab.
      let first : rest ≡ 9 ∷ after rest = tab_first rest tab in
      followed_at TabAfterKey (position_after u.held.position separation rest) (further 1 t.held.position) separation (9 ∷ after rest)
      (ap (λ q. position_after q separation rest) place ∙ ap (λ r. position_after (further 1 t.held.position) separation r) first)
      (none.tab_after_question more separation (after rest) e gap (sym left ∙ (white_cut false u.rest ∙ ap (λ r. separation ++ r) first)) (rw (sym first) exact.1))
      (λ c may. (asks asked c may, begins, no_tab_in false u.rest))) (λ _. goes))

  pub question_told : (more : List ℕ) → t.rest ≡ 63 ∷ more → is_at_gap more ≡ true → Faults (Told text) (fetch_key t)
  unfolding fetch_key begin_key
  question_told more e gap =
      let key_place : Holds (λ s. Stays s t.held × ((in_flow t.held || t.held.key_allowed) ≡ true)) (begin_key t.held) = grind (arith, nat_tests, eqb-true, holds.either, in_flow, holds.went, holds.checked, not, KeyNotAllowed, rolled_stays, not-false) in
      knowing {P = λ v. (v.rest ≡ t.rest) × Stays v.held t.held × ((in_flow t.held || t.held.key_allowed) ≡ true)} (holds.tried t (begin_key t.held) key_place (λ s k. (refl, k.0, k.1))) (tried t (key_begun more e gap)) (λ u first.
      known_turn _ (held_exactly u (key_removed u.held)) (tried u (remove_told text u.held (λ must. absurd (cc (must, ap (λ ks. is_required (top_key ks)) first.1.1, not_required a some first.2))))) (λ _.
      let here : ScannerState = skip_indicator (on_held (λ s. allow_key (not (in_flow s)) s) (record u { held = record u.held { keys = with_top None u.held.keys } })) in
      let left : here.rest ≡ more = ap after (first.0 ∙ e) in
      let place : here.held.position ≡ past t.held.position = ap past first.1.0 in
      in_turn (white_told first.2 more e gap here left place) (λ w k.
      in_turn (space_checked first.2 more e gap here w left place k) (λ x l. goes))))

  -- ---- `:`

  -- the key of an entry of a sequence that may be a single pair, if it is chosen to be one
  record SingleKey (k : Key) (es : List Entry) : Type 0 where
    first : Entry
    around : List Entry
    are : es ≡ first ∷ around
    takes : takes_pair first.kind first.pair ≡ true
    had_is : first.had ≡ entry.waits k.position

  misplaced : (more : List ℕ) → t.rest ≡ 58 ∷ more → colon_may_precede more ≡ true → is_value t ≡ true → (k : Key) → top_key t.held.keys ≡ Some k → opens_pair t.held.flow ≡ true → nat_lt k.position.line t.held.position.line ≡ true → Told text (At ColonMisplaced t.held.position)
  misplaced more e apart i k top opens late = λ _.
      let s : SingleKey k (entries_by (true ∷ []) t.held.keys a.base.entries) = grind (arith, a.are_entries, opens, top) in
      stuck a some (true ∷ []) ColonMisplaced t.held.position (λ c may.
      record { fails = may_not_stand (defs.key_on_earlier_line more k.position s.first s.around e (value_here more e i c (true ∷ [])) s.are s.takes s.had_is (grind (arith, nat_tests, late))); is_first = (looked_at a some lies c (true ∷ []), apart) })

  not_allowed : (more : List ℕ) → t.rest ≡ 58 ∷ more → colon_may_precede more ≡ true → is_value t ≡ true → top_key t.held.keys ≡ None → in_flow t.held ≡ false → t.held.key_allowed ≡ false → Told text (At ValueNotAllowed t.held.position)
  not_allowed more e apart i top o allowed = λ _.
      let out : is_empty t.held.flow ≡ true = is_outside o in
      let none_in : a.base.entries ≡ [] = no_entries t.held.key_allowed _ t.held.flow t.held.keys a.base.entries out a.are_entries in
      let key_is : outside_key a.base.entries t.held.keys ≡ None = ap (λ es. outside_key es t.held.keys) none_in ∙ top in
      let may : MayChoose true false (outside_key a.base.entries t.held.keys) t.held.position t.rest = rw key_is tt in
      record {
        stands = λ h. absurd (cc h);
        is_stuck = no_key (account_by a some false []) a.separation more t.held.position (rw (sym e) (place a some false [] may)) (value_here more e i false []) (in_flow_is a some false [] ∙ o)
            (line_taken false [] (λ _. may) out allowed) (rw (sym e) (none_waits a some top out))
            (rw (sym e) (looked_at a some lies false [])) apart;
      }

  mapping_told : (more : List ℕ) → t.rest ≡ 58 ∷ more → colon_may_precede more ≡ true → is_value t ≡ true → top_key t.held.keys ≡ None → (s : Held) → in_flow s ≡ in_flow t.held → s.key_allowed ≡ t.held.key_allowed → Faults (Told text) (begin_keyless_mapping t.held.position s)
  unfolding begin_keyless_mapping
  mapping_told more e apart i top s flow allowed =
      either (in_flow s) (λ _. goes) (λ o. checked (not s.key_allowed) (At ValueNotAllowed t.held.position) (λ n. not_allowed more e apart i top (sym flow ∙ o) (sym allowed ∙ not-true s.key_allowed n)) (λ _. goes))

  tab_checked : (more : List ℕ) → t.rest ≡ 58 ∷ more → begins_with 9 more ≡ true → (h : Held) → h.position ≡ past t.held.position → (x : Read Whitespace) → space Yes more h.position ≡ Ok x → Faults (Told text) (check_after_tab x.value (go_on x h))
  unfolding check_after_tab is_alpha is_alphanumeric
  tab_checked more e tab h place x k =
      let letter : (r : List ℕ) → ((peek r == 45) || is_alpha (peek r)) ≡ true → begins_with_alpha r ≡ true = λ r f. grind (arith, same_alpha) in
      rw (sym (line_read more h.position x (grind arith) k))
      (checked (not (is_one_of (leading is_blank more) 32) && ((peek (past_blanks_and_comment more) == 45) || is_alpha (peek (past_blanks_and_comment more)))) (At TabAfterColon (past_line_rest h.position more)) (λ all.
      let first = and_parts (not (is_one_of (leading is_blank more) 32)) ((peek (past_blanks_and_comment more) == 45) || is_alpha (peek (past_blanks_and_comment more))) all in
      let alpha : begins_with_alpha (past_blanks_and_comment more) ≡ true = letter (past_blanks_and_comment more) first.1 in
      followed_at TabAfterColon _ (further 1 t.held.position) (blanks_and_comment more) (past_blanks_and_comment more)
      (line_place h.position more place)
      (none.tab_after_colon more (blanks_and_comment more) (past_blanks_and_comment more) e tab (line_goes_on more)
      (no_space (leading is_blank more) (tags.after is_blank more) (not-true (is_one_of (leading is_blank more) 32) first.0) alpha) alpha) (λ c may. tt)) (λ _. goes))

  value_checked : (more : List ℕ) → t.rest ≡ 58 ∷ more → (u : ScannerState) → u.rest ≡ more → u.held.position ≡ past t.held.position → Faults (Told text) (check_value_space u)
  unfolding check_value_space
  value_checked more e u left place =
      let not_both : (r : List ℕ) → (peek r == 9) ≡ true → begins_with 35 r ≡ true → ⊥ = λ r h i. grind arith in
      either (peek u.rest == 9) (λ tab. read u.held (space Yes u.rest u.held.position) check_after_tab (λ f k. space_told text Yes u.rest u.held.position (λ h. absurd (not_both u.rest tab h)) f k)
      (λ x k. tab_checked more e (sym (begins_here 9 more refl) ∙ (ap (λ r. peek r == 9) (sym left) ∙ tab)) u.held place x (ap (λ r. space Yes r u.held.position) (sym left) ∙ k))) (λ _. goes)

  pub colon_told : (more : List ℕ) → t.rest ≡ 58 ∷ more → is_value t ≡ true → Faults (Told text) (fetch_value t)
  unfolding fetch_value insert_key begin_keyless_value begin_pair
  colon_told more e is =
      let value_told_by : (more : List ℕ) → t.rest ≡ 58 ∷ more → colon_may_precede more ≡ true → (u : ScannerState) → u.held.keys ≡ t.held.keys → in_flow u.held ≡ in_flow t.held → u.held.key_allowed ≡ t.held.key_allowed
      → Faults (Told text) (value_of (top_key u.held.keys) t.held.position (opens_pair t.held.flow) u.held) =
      λ more e apart u keys flow allowed. (grind (arith, nat_tests, eqb-true, opens_pair, in_turn, mapping_told, goes, opens, checked, nat_lt, misplaced, (sym (ap top_key keys)))) in
      let first : ScannerState = skip_indicator (on_held (λ s. record s { flow = paired s.flow }) t) in
      known_turn _ (colon_spaced first.rest first.held) (value_checked more e first (ap after e) refl) (λ apart.
      in_turn (tried (past_colon first.rest first.held) (value_told_by more e (ap colon_may_precede (sym (ap after e)) ∙ apart) (past_colon first.rest first.held) refl (ap not (grind arith)) refl)) (λ v i. goes))

  -- ---- brackets and commas

  -- a state where nothing was passed yet
  abbrev IsHere : ScannerState → Type 0
  IsHere u = (u.rest ≡ t.rest) × (u.held.position ≡ t.held.position)

  many_entries : (cs : List Bool) (ks : List (Option Key)) (es : List Entry) → length (entries_by cs ks es) ≡ length es
  many_entries cs ks [] = refl
  many_entries cs ks (e ∷ es) = ap suc (many_entries _ _ es)

  -- as many entries as flow levels
  many_here : length t.held.flow ≡ length (entries_by [] t.held.keys a.base.entries)
  many_here = many_levels t.held.key_allowed _ t.held.flow t.held.keys a.base.entries a.are_entries ∙ sym (many_entries [] t.held.keys a.base.entries)

  indicator_passed : (c : ℕ) (more : List ℕ) → t.rest ≡ c ∷ more → none.is_flow_indicator c ≡ true → (opens c && nat_le 255 (length t.held.flow)) ≡ false → (u : ScannerState) → IsHere u → Faults (Told text) (pass_indicator u)
  unfolding pass_indicator
  indicator_passed c more e is room u h =
      spaces_told text Yes (skip_indicator u) (λ k.
      followed_at CommentNotSeparated (past u.held.position) (further 1 t.held.position) [] (after u.rest) (ap past h.1)
      (none.glued c more e is (ap (λ r. begins_with 35 (after r)) (sym e) ∙ (ap (λ r. begins_with 35 (after r)) (sym h.0) ∙ k))) (λ d may. ap (λ n. opens c && nat_le 255 n) (sym many_here) ∙ room))

  flow_begun : (kind : Collection) (bracket : ℕ) (more : List ℕ) → t.rest ≡ bracket ∷ more → (bracket ≡ 91) ⊎ (bracket ≡ 123) → Faults (Told text) (begin_flow kind t.held)
  unfolding begin_flow increase_flow_level
  flow_begun kind bracket more e is =
      let rolled = rolled_one_stays (record t.held { keys = saved_keys t.held }) in
      rw (ap roll_one_col_indent (saved_is t.held), rolled.1, rolled.0.0)
      (kept deepened_flow (λ e. refl) (λ x. goes) (checked (nat_le 255 (length t.held.flow)) (At FlowTooDeep t.held.position) (λ full _.
      stuck a some [] FlowTooDeep t.held.position (λ c may.
      let room : 255 ≤ length t.held.flow = grind (arith, nat_tests, full) in
      record { fails = may_not_stand (defs.too_deep bracket more e is (omega (arith, many_here, room))); is_first = looked_at a some lies c [] })) (λ _. goes)))

  pub opening_told : (kind : Collection) (bracket : ℕ) (more : List ℕ) → t.rest ≡ bracket ∷ more → (bracket ≡ 91) ⊎ (bracket ≡ 123) → Faults (Told text) (fetch_flow_collection_start kind t)
  unfolding fetch_flow_collection_start begin_flow increase_flow_level
  opening_told kind bracket more e is =
      let begun_here : Holds (λ s. (s.position ≡ t.held.position) × (nat_le 255 (length t.held.flow) ≡ false)) (begin_flow kind t.held) = grind (arith, nat_tests, eqb-true, saved_is, rolled_one_stays, holds.refused, holds.went) in
      let by : (c : ℕ) → (c ≡ 91) ⊎ (c ≡ 123) → none.is_flow_indicator c ≡ true = λ c a. grind arith in
      knowing {P = λ u. IsHere u × (nat_le 255 (length t.held.flow) ≡ false)} (holds.tried t (begin_flow kind t.held) begun_here (λ s k. ((refl, k.0), k.1))) (tried t (flow_begun kind bracket more e is)) (λ u h.
      in_turn (indicator_passed bracket more e (by bracket is) (ap (λ b. opens bracket && b) h.1 ∙ and_false (opens bracket)) u h.0) (λ v j. goes))

  pub closing_told : (kind : Collection) (c : ℕ) (more : List ℕ) → t.rest ≡ c ∷ more → (c ≡ 93) ⊎ (c ≡ 125) → Faults (Told text) (fetch_flow_collection_end kind t)
  unfolding fetch_flow_collection_end end_flow
  closing_told kind c more e is =
      let closes : (c : ℕ) → (c ≡ 93) ⊎ (c ≡ 125) → (none.is_flow_indicator c ≡ true) × (opens c ≡ false) = λ c a. grind arith in
      known_turn _ (held_exactly t (flow_over t.held)) (tried t (kept ended_flow (λ e. refl) (λ x. goes) (remove_told text t.held (closing_rowless a some c more e (inr is))))) (λ _.
      in_turn (indicator_passed c more e (closes c is).0 (ap (λ b. b && nat_le 255 (length t.held.flow)) (closes c is).1) _ (refl, refl)) (λ v j. goes))

  pub comma_told : (more : List ℕ) → t.rest ≡ 44 ∷ more → Faults (Told text) (fetch_flow_entry t)
  unfolding fetch_flow_entry end_entry
  comma_told more e =
      known_turn _ (held_exactly t (entry_over t.held)) (tried t (kept next_entry (λ e. refl) (λ x. goes) (remove_told text t.held (closing_rowless a some 44 more e (inl refl))))) (λ _.
      in_turn (indicator_passed 44 more e refl refl _ (refl, refl)) (λ v j. goes))
