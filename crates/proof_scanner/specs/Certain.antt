-- Places where no row of the text goes on, by the definitions alone; of those where a text is stuck there is one.
use Rattle.std.specs.Prelude.{◌≡◌, ℕ, List, false}
use Rattle.defs_text.specs.Position.{Position}
use Rattle.defs_text.specs.Text.{is_empty}
use Rattle.defs_token.specs.Step.{Row}
use Rattle.defs_token.specs.RowAccount.{Account}
use Rattle.defs_token.specs.Row.{HasRow}
use Rattle.defs_token.specs.Beginning.{IsPlace}
use Rattle.yaml_tokens.specs.declared.problem.Problem.{Problem}
use Rattle.proof_lexers.specs.Separations.{begins_separation}
use Rattle.proof_scanner.specs.Failing.{Fails}
use Rattle.proof_scanner.specs.Stuck.{IsStuck}

-- `failing_places_have_no_row`: whatever beginning of a row led to the place
abbrev pub FailingPlacesHaveNoRow : Type 0
FailingPlacesHaveNoRow =
    (text separation rest : List ℕ) (a : Account) (here at : Position) (why : Problem) (r : Row) → IsPlace text a separation rest here → begins_separation rest ≡ false → is_empty rest ≡ false → Fails a separation here rest why at → HasRow text r → ⊥

-- `texts_with_a_row_are_not_stuck`
abbrev pub TextsWithARowAreNotStuck : Type 0
TextsWithARowAreNotStuck = (text : List ℕ) (why : Problem) (at : Position) (r : Row) → HasRow text r → IsStuck text why at → ⊥

-- `texts_are_stuck_once`
abbrev pub TextsAreStuckOnce : Type 0
TextsAreStuckOnce = (text : List ℕ) (why1 why2 : Problem) (at1 at2 : Position) → IsStuck text why1 at1 → IsStuck text why2 at2 → (why1 ≡ why2) × (at1 ≡ at2)
