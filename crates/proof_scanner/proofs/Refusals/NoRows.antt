-- Where a condition of these kinds fails no row of the text goes on.
use Rattle.proof_scanner.proofs.Common.{Account, ap, Begins, FailingPlacesHaveNoRow, Fails, false, HasNoKey, HasRow, is_in_flow, is_separation, is_taken, is_value_here, IsPlace, List, Position, position_after, Problem, refl, Row, Site, true, ℕ, ◌++◌, ◌∙◌, ◌∷◌, ◌≡◌}
use Rattle.defs_text.specs.Classes as classes
use Rattle.proof_scanner.specs.Failing as defs
use Rattle.proof_scanner.proofs.Refusals.OtherRows.{StepAt, IsClearAfter, IsClearGapAfter, RowAt, row_at}
use Rattle.proof_scanner.proofs.Refusals.PiecesRefused.{OfQuoted, no_colon_here, no_tab_after_quoted, not_followed, spaces_indent, stands_nowhere}
use Rattle.proof_scanner.proofs.Refusals.PlainsRefused.{no_plain_stands}
use Rattle.proof_scanner.proofs.Refusals.TextsRefused.{lines_stand, no_block_stands, no_piece_stands}
use Rattle.proof_scanner.proofs.Refusals.Common.{gap_is_separation}

-- No step stands where a condition fails, but for a TAB after a quoted scalar.
pub step_refuted : {a : Account} {separation rest : List ℕ} {here : Position} (s : StepAt a separation rest here) (T : Problem → Position → Type 0) → IsClearGapAfter s → OfQuoted s T → (why : Problem) (at : Position) → Fails a separation here rest why at → T why at
step_refuted s T clear quoted why at (defs.no_piece n) = absurd (no_piece_stands s why at n)
step_refuted s T clear quoted why at (defs.no_plain comes n) = absurd (no_plain_stands s comes clear why at n)
step_refuted s T clear quoted why at (defs.no_quoted single lacks n) = absurd (lines_stand s single why at lacks n)
step_refuted s T clear quoted why at (defs.no_block out n) = absurd (no_block_stands s out why at n)
step_refuted s T clear quoted why at (defs.followed n) = absurd (not_followed s why at n)
step_refuted s T clear quoted why at (defs.may_not_stand n) = stands_nowhere s T quoted why at n

-- no step stands at a colon for which no key waits, whatever begins one before
pub keyless_step : (text separation rest more : List ℕ) (a : Account) (here : Position) (s : StepAt a separation rest here) → rest ≡ 58 ∷ more → Begins text (separation ++ rest) s.account → is_separation false separation rest ≡ true → is_value_here a separation more ≡ true → is_in_flow a.entries ≡ false → is_taken a separation ≡ true
    → HasNoKey text separation rest here → ⊥
keyless_step text separation rest more a here s e begins filled is out line none =
    no_colon_here s more e is out line (λ q waits unbroken near.
    none s.account q (record { begins = begins; is_filled = filled; is_here = s.here_is ∙ ap (λ (x : Site). position_after x.position separation rest) s.is_like.0 }) waits unbroken near (spaces_indent s))

-- no row goes on there
pub no_keyless_colon : (text separation more : List ℕ) (a : Account) (here : Position) (r : Row) → IsPlace text a separation (58 ∷ more) here → is_value_here a separation more ≡ true → is_in_flow a.entries ≡ false → is_taken a separation ≡ true → HasNoKey text separation (58 ∷ more) here → HasRow text r → ⊥
unfolding classes.is_blank classes.is_break
no_keyless_colon text separation more a here r p is out line none row =
    let at : RowAt text a separation (58 ∷ more) here = row_at text separation (58 ∷ more) a here r p refl refl row in
    keyless_step text separation (58 ∷ more) more a here at.step_at refl at.begins p.is_filled is out line none

-- None stands there, if no TAB indents what comes after the step.
pub no_step_stands : {a : Account} {separation rest : List ℕ} {here : Position} (s : StepAt a separation rest here) → IsClearAfter s → (why : Problem) (at : Position) → Fails a separation here rest why at → ⊥
no_step_stands s clear =
    step_refuted s (λ why at. ⊥) (λ before gap content cut white. clear gap content cut (gap_is_separation gap content white)) (λ single piece gap content e is fills some solid tab. no_tab_after_quoted s single piece gap content e is fills some solid tab clear)

pub failing_places_have_no_row : FailingPlacesHaveNoRow
failing_places_have_no_row text separation rest a here at why r p solid some f row =
    let at_row : RowAt text a separation rest here = row_at text separation rest a here r p solid some row in
    no_step_stands at_row.step_at at_row.is_clear why at f
