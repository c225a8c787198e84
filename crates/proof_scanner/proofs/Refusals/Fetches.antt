-- The faults of a fetch: each of a kind that is told is one by which the text is stuck.
use Rattle.proof_scanner.proofs.Common.{ap, are_marks, arith, Arrives, At, before_by, before_past, begins_document_at, begins_with, columns, eqb-true, false, fetch_content, fetch_here, fetch_stream_end, fetch_token, has_open_level, has_required, inl, inr, is_adjacent, is_document_marker, is_empty, List, may_not_stand, nat_le, nat_lt, nat_tests, next_line, not, peek, refl, ScannerState, sym, Tok, true, ℕ, ◌&&◌, ◌+◌, ◌==◌, ◌||◌, ◌∙◌, ◌≡◌, ◌≤◌, cases_Bool, [], AreLevels, Bool, Indent, is_deeper, not_ended, ◌∷◌, InvalidIndentation, KeyExpected, UnexpectedAt, UnexpectedBacktick, UnexpectedPercent}
use Rattle.model_scanner.specs.declared.kind.Collection.TheVariants.{Sequence, Mapping}
use Rattle.proof_scanner.proofs.Refusals.Common.{first_stays, Faults, IsDeep, IsRowless, IsWhy, LiesDeep, Told, content_holds, either, fault, goes_on_here, no_end, none_begins, rowless_told, stuck_by, token_holds, tried, after}
use Rattle.proof_scanner.proofs.Refusals.Nodes.{name_told, plain_told, tag_told, quoted_told}
use Rattle.proof_scanner.proofs.Refusals.Blocks.{block_told}
use Rattle.proof_scanner.proofs.Refusals.Indicators.{directive_told, marker_told, document_end_told, dash_told, question_told, colon_told, opening_told, closing_told, comma_told}
use Rattle.proof_scanner.proofs.Refusals.KeysThatWait.{end_rowless}
use Rattle.proof_scanner.specs.Failing as defs
use Rattle.proof_scanner.specs.NoPiece as none

-- ---- outside flow

pub levels_end : (col : ℕ) (bs : List ℕ) (awaits : Bool) (i : ℕ) (ds : List Indent) → AreLevels i ds → not_ended col bs ≡ columns i ds → (awaits && is_deeper col bs) ≡ has_open_level ds → i ≤ col + 1
levels_end col bs aw i [] a e o = omega (arith, a)
levels_end col bs aw i (d ∷ ds) a e o = grind (arith, nat_tests, first_stays col bs)

module _ {text : List ℕ} {t : ScannerState} (a : Arrives text t) (some : is_empty t.rest ≡ false) where
  -- ---- the token by the first character

  token_told : IsDeep t.held → ((t.held.position.col == 0) && is_document_marker t.rest) ≡ false → (t.held.position.col ≡ 0 → (peek t.rest == 37) ≡ false) → Faults (Told text) (fetch_token t)
  token_told deep marker percent =
      let lies : LiesDeep t = λ _. deep in
      token_holds (Faults (Told text)) t (is_adjacent (before_past (before_by a.base.site.before) a.separation)) a.is_clean a.is_solid (λ inside. sym (a.is_adjacent_here inside some)) marker (record {
        anchor = λ kind more e. name_told a some lies kind more e;
        tag = λ more e. tag_told a some lies more e;
        plain = λ comes. plain_told a some lies deep comes;
        quoted = λ quotes more e. quoted_told a some lies deep quotes more e;
        block = λ style more e o. block_told a some lies o style more e;
        dash = λ more e gap. dash_told a some lies more e gap;
        question = λ more e gap. question_told a some lies more e gap;
        colon = λ more e i. colon_told a some lies more e i;
        open_bracket = λ more e. opening_told a some lies Sequence 91 more e (inl refl);
        open_brace = λ more e. opening_told a some lies Mapping 123 more e (inr refl);
        close_bracket = λ more e. closing_told a some lies Sequence 93 more e (inl refl);
        close_brace = λ more e. closing_told a some lies Mapping 125 more e (inr refl);
        comma = λ more e. comma_told a some lies more e;
        percent = λ more e. fault {f = At UnexpectedPercent t.held.position} (λ _. none_begins a some lies UnexpectedPercent _ (none.percent more e (grind (arith, percent, eqb-true))) tt);
        at_sign = λ more e. fault {f = At UnexpectedAt t.held.position} (λ _. none_begins a some lies UnexpectedAt _ (none.at_sign more e) tt);
        backtick = λ more e. fault {f = At UnexpectedBacktick t.held.position} (λ _. none_begins a some lies UnexpectedBacktick _ (none.backtick more e) tt);
      }) some

  -- ---- columns

  shallow : begins_document_at t.held.position t.rest ≡ false → nat_lt (t.held.position.col + 1) t.held.indent ≡ true → IsWhy text InvalidIndentation t.held.position
  shallow none low = elim (cases_Bool (is_empty t.held.flow)) [
    | inl e ↦
        let deep : t.held.indent ≤ t.held.position.col + 1 = levels_end _ _ _ _ _ a.are_levels (rw e at a.blocks_are) (rw e at a.awaits_is) in
        absurd (grind (arith, nat_tests, deep, low))
    | inr e ↦
        stuck_by a some InvalidIndentation t.held.position (λ b bs k. (b ≡ true) × (nat_le k t.held.position.col ≡ false)) (ap not e, grind (arith, nat_tests, low))
        (λ c may m. record { is_first = a.is_indented some; fails = may_not_stand (defs.shallow m.0 none m.1) })
  ]

  content_told : Faults (Told text) (fetch_content t)
  unfolding are_marks
  content_told =
      let document_line : t.held.position.col ≡ 0 → (begins_with 37 t.rest || is_document_marker t.rest) ≡ true → LiesDeep t = λ col begins none. grind arith in
      content_holds (Faults (Told text)) t some (record {
        directive = λ e col. directive_told a some (document_line col (ap (λ r. begins_with 37 r || is_document_marker r) e)) (after t.rest) e col;
        document_start = λ more e gap col. marker_told a some (document_line col (ap (λ r. begins_with 37 r || is_document_marker r) e ∙ rw gap refl)) Tok.document_start col;
        document_end = λ more e gap col. document_end_told a some (document_line col (ap (λ r. begins_with 37 r || is_document_marker r) e ∙ rw gap refl)) more e gap col;
        shallow = λ n low. fault {f = At InvalidIndentation t.held.position} (λ _. shallow (grind arith) low);
        token = λ n deep. token_told deep n.0 n.1;
      })

-- ---- the text's end

-- a token of a text that goes on, or the stream's end
pub here_told : (text : List ℕ) (t : ScannerState) → Arrives text t → Faults (Told text) (fetch_here t)
unfolding fetch_here fetch_stream_end
here_told text t a =
    let end_told : (text : List ℕ) (t : ScannerState) → (has_required t.held.keys ≡ true → IsRowless text) → Faults (Told text) (fetch_stream_end t) = λ text t rowless. tried t (rowless_told text (has_required t.held.keys) KeyExpected (next_line t.held.position) _ refl rowless) in
    either (peek t.rest == 0) (λ e. end_told text t (end_rowless text t a (no_end t.rest a.is_clean e))) (λ e. content_told a (goes_on_here t.rest e))
