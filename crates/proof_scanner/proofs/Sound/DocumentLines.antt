-- Document markers and directives: what holds where they begin holds between two fetches after them.
use Rattle.proof_scanner.proofs.Common.{[], and_false, and_parts, ap, append-nil, append_assoc, AreLevels, arith, Arrives, before_by, begin_line, begins_free_line, begins_line, begins_with, blanks_and_comment, Bool, check_document_end, columns, Directive, directive_of, directives_end, either, Entry, eqb-true, false, fetch_directive, fetch_document_end, fetch_document_marker, first_break, FlowLevel, gives_marker, has_break, has_no_break, has_no_nul, has_open_level, Held, Holds, is_at_gap, is_break, is_breakz, is_closed, is_empty, is_indented_by_spaces, is_renewed, is_required, is_separation, IsPiece, IsReadOn, Key, List, may_precede, no_nul_after, None, on_held, Option, or_true, other, past, past_blanks_and_comment, past_line_rest, peek, Position, position_after, position_append, previous_by, push, put, read, read_as, refl, refused, remove_implicit_key, replicate-append-replicate, ScannerState, seen, settled, Site, site_in, skip_indicator, Some, subst, sym, taken, Tok, token_of, top_key, true, unroll_indent, went, whole_directive, with_top, ℕ, ◌++◌, ◌∙◌, ◌∷◌, ◌≡◌, ◌≤◌, if◌then◌else◌}
use Rattle.proof_scanner.proofs.Sound.Steps.{exactly, held_exactly, Onward, adjacent_kept, by_sides, ArrivesBy, at_end_of, goes_inside, is_done, key_gone, line_rest_cut, line_rest_fills, line_rest_in_line, read_outside, Reads, rest_skipped, same_in_line, shorter, some_rest, three_past, tokens_before, unrolled_in_flow, with_entries, same_has_break, with_sides, ended_outside, all_ended, IsToken, unroll_keeps}
use Rattle.defs_token.specs.Account.{Account as PieceAccount}
use Rattle.model_scanner.specs.Directive.{directive}
use Rattle.proof_lexers.specs.DirectiveEnds.{ends_line, next_line}
use Rattle.proof_scanner.proofs.Cut.Pieces.Directives.{break_cut, break_is_separation, piece_of}
use Rattle.model_scanner.specs.Machine as machine

-- What was read of such a line: the token and its piece, the separation after it, the text and the position after both, and whether only blanks stand before that on its line.
pub record Read : Type 0 where
  pub tok : Tok
  pub piece : List ℕ
  pub gap : List ℕ
  pub rest : List ℕ
  pub end : Position
  pub leading : Bool

abbrev pub next_of : Read → List ℕ
next_of d = d.gap ++ d.rest

-- What is to be known of it: what is so of the token of a document marker or a directive, and what was read.
pub record IsRead (t : ScannerState) (d : Read) : Type 0 where
  pub token : IsToken d.tok gives_marker [] (previous_by d.tok) (λ _ _. true) (λ fl piece next. may_precede fl [] d.tok piece next) (λ fl bs b. if fl then b else false)
  pub open token use *
  pub before : before_by (previous_by d.tok) ≡ other
  pub at_margin : t.held.position.col ≡ 0
  pub cut : t.rest ≡ d.piece ++ next_of d
  pub is_solid : is_empty d.piece ≡ false
  pub in_line : has_break d.piece ≡ false
  pub is_filled : is_separation false d.gap d.rest ≡ true
  pub end_is : d.end ≡ position_after (position_after t.held.position d.piece (next_of d)) d.gap d.rest
  pub is_piece : (a : PieceAccount) → a.position.col ≡ 0 → is_closed a ≡ true → IsPiece a d.piece (next_of d) None a.position d.tok
  pub is_followed : (fl : Bool) (bs : List ℕ) → may_precede fl bs d.tok d.piece (next_of d) ≡ true
  pub no_tabs : (bs : List ℕ) (b : Bool) → is_indented_by_spaces (previous_by d.tok) bs b d.gap ≡ true
  pub leads : is_empty d.rest ≡ false → d.leading ≡ begins_line (previous_by d.tok) d.gap
  pub read_on : (q : Position) → IsReadOn (previous_by d.tok) q d.gap d.rest
  pub not_free : begins_free_line (previous_by d.tok) d.gap ≡ false
  pub not_renewed : is_renewed (previous_by d.tok) d.gap ≡ false

-- the scanner after it, from what begins such a line
abbrev pub line_past : ScannerState → Held → Read → ScannerState
line_past t h d = record { rest = d.rest; held = record h { position = d.end; leading = d.leading; tokens = h.tokens ++ (put t.held.position d.tok ∷ []) } }

-- what holds of the states before it and after it that no key decides
line_reads : (t : ScannerState) (d : Read) (h : Held) (y : Site) → IsRead t d → y.position ≡ position_after t.held.position d.piece (next_of d) → y.before ≡ previous_by d.tok → y.blocks ≡ columns h.indent h.indents → y.awaits ≡ has_open_level h.indents → AreLevels h.indent h.indents →
    t.held.adjacent_value_at ≤ t.held.position.index → (h.adjacent_value_at ≡ t.held.adjacent_value_at) × (h.started ≡ t.held.started) × (h.ended ≡ t.held.ended) → Reads t (line_past t h d) y d.piece (next_of d) d.gap
line_reads t d h y r here before columns_are awaits levels was same =
    grind (arith, r, adjacent_kept t (line_past t h d) (before_by y.before) d.piece (next_of d) d.gap r.is_solid)

-- ---- what begins such a line

-- no open key and no key that may begin
abbrev pub begun_from : Held → Held
begun_from u = record u { keys = with_top None u.keys; key_allowed = false }

pub line_begun : (s u : Held) → unroll_indent 0 s ≡ u → Holds (λ v. (v ≡ begun_from u) × (is_required (top_key u.keys) ≡ false)) (begin_line s)
unfolding begin_line remove_implicit_key
line_begun s u e = rw e (grind (arith, refused, went))

-- ---- outside flow

line_stands : (text : List ℕ) (t : ScannerState) (d : Read) (a : ArrivesBy text t [] (None ∷ []) []) → IsRead t d → t.held.flow ≡ [] → with_top None t.held.keys ≡ None ∷ [] → Onward text t.rest (line_past t (begun_from (all_ended t.held)) d)
line_stands text t d a r flow keys =
    let x : Site = site_in false gives_marker t.held.position a.site in
    read_outside text t (line_past t (begun_from (all_ended t.held)) d) a d.piece (next_of d) d.gap d.tok (record { line = taken; blocks = [] }) x (ap (λ k. site_in false k t.held.position a.site) r.act)
    (line_reads t d (begun_from (all_ended t.held)) _ r refl refl refl (r.awaits false x.blocks x.awaits (next_of d)) refl a.was_adjacent (refl, refl, refl)) (grind (arith, r))
    (grind (arith, append_assoc, append-nil, r, r.is_piece (seen (with_entries a.site a.line []) x a.separation) r.at_margin refl, a.is_indented (some_rest t.rest d.piece (next_of d) r.cut r.is_solid), eqb-true, shorter, replicate-append-replicate))

-- ---- in flow

line_goes : (text : List ℕ) (t : ScannerState) (d : Read) (f : FlowLevel) (fs : List FlowLevel) (k : Option Key) (ks : List (Option Key)) (e : Entry) (es : List Entry) (a : ArrivesBy text t (f ∷ fs) (k ∷ ks) (e ∷ es)) → IsRead t d → t.held.flow ≡ f ∷ fs → with_top None t.held.keys ≡ None ∷ ks →
    Onward text t.rest (line_past t (begun_from t.held) d)
line_goes text t d f fs k ks e es a r flow keys =
    let x : Site = site_in true gives_marker t.held.position a.site in
    goes_inside text t (line_past t (begun_from t.held) d) f f fs k ks e (record { kind = e.kind; pair = e.pair; had = settled }) es a d.piece (next_of d) d.tok d.gap
    (line_reads t d (begun_from t.held) _ r refl refl a.blocks_are (r.awaits true a.site.blocks a.site.awaits (next_of d) ∙ a.awaits_is) a.are_levels a.was_adjacent (refl, refl, refl))
    (let piece = r.is_piece (seen (with_entries a.site a.line (e ∷ es)) x a.separation) r.at_margin refl in
    let indented = a.is_indented (some_rest t.rest d.piece (next_of d) r.cut r.is_solid) in grind (arith, append-nil, r, tokens_before, piece, indented))

-- ---- both

-- What holds where such a line begins holds between two fetches after it.
pub line_keeps : (text : List ℕ) (t : ScannerState) (d : Read) → is_empty t.rest ≡ false → Arrives text t → IsRead t d → is_required (top_key (unroll_indent 0 t.held).keys) ≡ false →
    Onward text t.rest (line_past t (begun_from (unroll_indent 0 t.held)) d)
line_keeps text t d some a =
    by_sides text t (λ v. IsRead v d → is_required (top_key (unroll_indent 0 v.held).keys) ≡ false → Onward text v.rest (line_past v (begun_from (unroll_indent 0 v.held)) d)) a
    (λ k x n r. rw (ended_outside (with_sides t [] (k ∷ [])).held refl x.are_levels) (λ none. line_stands text _ d (key_gone text _ k x some (grind arith)) r refl refl))
    (λ f fs k ks e es x r. rw (unrolled_in_flow 0 (with_sides t (f ∷ fs) (k ∷ ks)).held refl) (λ none. line_goes text _ d f fs k ks e es x r refl refl))

-- ---- the functions of the model that read document markers and directives keep what holds where they begin

-- `---`
pub document_start_keeps : (text more : List ℕ) (t : ScannerState) → Arrives text t → t.rest ≡ 45 ∷ 45 ∷ 45 ∷ more → is_at_gap more ≡ true → t.held.position.col ≡ 0 → Holds (Onward text t.rest) (fetch_document_marker Tok.document_start t)
unfolding fetch_document_marker is_break
document_start_keeps text more t a e gap col =
    let h : Held = unroll_indent 0 t.held in
    exactly _ (held_exactly t (line_begun t.held h refl)) (λ optional. went
    (subst (λ r. Onward text t.rest (on_held (push t.held.position Tok.document_start) (skip_indicator (skip_indicator (skip_indicator (record { rest = r; held = begun_from h })))))) (sym e)
    (line_keeps text t (record { tok = Tok.document_start; piece = 45 ∷ 45 ∷ 45 ∷ []; gap = []; rest = more; end = past (past (past h.position)); leading = false }) (ap is_empty e) a
    (grind (arith, and_false, e, gap, col, ap (λ q. past (past (past q))) (unroll_keeps 0 t.held).0 ∙ three_past t.held.position 45 more refl)) optional)))

-- ---- `...`

-- the state after the marker
abbrev pub marked : ScannerState → Held → (rest : List ℕ) → ScannerState
marked t h r = on_held (push t.held.position Tok.document_end) (skip_indicator (skip_indicator (skip_indicator (record { rest = r; held = begun_from h }))))

-- `...`, after which the line holds no more
pub document_end_keeps : (text more : List ℕ) (t : ScannerState) → Arrives text t → t.rest ≡ 46 ∷ 46 ∷ 46 ∷ more → is_at_gap more ≡ true → t.held.position.col ≡ 0 → Holds (Onward text t.rest) (fetch_document_end t)
unfolding fetch_document_end fetch_document_marker check_document_end is_break
document_end_keeps text more t a e gap col =
    let h : Held = unroll_indent 0 t.held in
    let clean : has_no_nul more ≡ true = no_nul_after (46 ∷ 46 ∷ 46 ∷ []) more (subst (λ l. has_no_nul l ≡ true) e a.is_clean) in
    exactly {x = marked t h (46 ∷ 46 ∷ 46 ∷ more)} _ (exactly _ (held_exactly t (line_begun t.held h refl)) (λ optional. went (ap (marked t h) e, optional))) (λ optional.
    exactly _ (rest_skipped _) (λ hash. either (is_breakz (peek (past_blanks_and_comment more))) (λ ends. went
    (line_keeps text t (record { tok = Tok.document_end; piece = 46 ∷ 46 ∷ 46 ∷ []; gap = blanks_and_comment more; rest = past_blanks_and_comment more; end = past_line_rest (past (past (past h.position))) more; leading = false }) (ap is_empty e) a
    (grind (arith, unroll_keeps, blanks_and_comment, is_done, same_has_break, at_end_of, no_nul_after, begins_with, eqb-true, line_rest_in_line, three_past, same_in_line, and_false, line_rest_cut, line_rest_fills)) optional)) (λ no. refused)))

-- ---- directives

abbrev pub directive_read : (line next : List ℕ) → Directive → Position → Read
directive_read line next d p = record { tok = token_of d; piece = 37 ∷ line; gap = first_break next; rest = next_line next; end = position_after p ((37 ∷ line) ++ first_break next) (next_line next); leading = true }

pub directive_is_read : (t : ScannerState) (line next : List ℕ) (d : Directive) → t.rest ≡ 37 ∷ (line ++ next) → has_no_break line ≡ true → ends_line next ≡ true → directive_of (37 ∷ line) ≡ Some d → t.held.position.col ≡ 0 → IsRead t (directive_read line next d t.held.position)
unfolding is_break
directive_is_read t line next d e no_break ends is col = grind (arith, and_false, break_cut, break_is_separation, position_append, piece_of, and_parts, or_true, has_break)

-- the scanner after a directive
abbrev pub after_it : ScannerState → machine.Read Tok → Held → ScannerState
after_it t x h = record { rest = x.rest; held = record h { position = x.position; leading = true; tokens = (push t.held.position x.value h).tokens } }

-- `%`
pub directive_keeps : (text more : List ℕ) (t : ScannerState) → Arrives text t → t.rest ≡ 37 ∷ more → t.held.position.col ≡ 0 → Holds (Onward text t.rest) (fetch_directive t)
unfolding fetch_directive
directive_keeps text more t a e col =
    let h : Held = unroll_indent 0 t.held in
    exactly _ (held_exactly t (line_begun t.held h refl)) (λ optional. read (begun_from h) (directive t.rest h.position) _ (λ x is. went
    (elim (read_as (ap (λ p. directive (37 ∷ more) p) (sym (unroll_keeps 0 t.held).0) ∙ (ap (λ r. directive r h.position) (sym e) ∙ is)) (directives_end more t.held.position)) as (λ y w. Onward text t.rest (after_it t y (begun_from h))) [
      | whole_directive line next d cut no_break ends is ↦ line_keeps text t (directive_read line next d t.held.position) (ap is_empty e) a (directive_is_read t line next d (e ∙ ap (λ l. 37 ∷ l) cut) no_break ends is col) optional
    ])))
