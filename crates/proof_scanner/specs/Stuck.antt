-- Where a text is refused, and why, by the definitions alone: a row may begin with all pieces up to a place, and there no step goes on.
use Rattle.std.specs.Prelude.{◌≡◌, ℕ, ◌<◌, List, ◌∷◌, ◌++◌, true, false}
use Rattle.defs_text.specs.Position.{Position, position_after}
use Rattle.defs_text.specs.Text.{is_empty}
use Rattle.defs_token.specs.Separation.{is_separation}
use Rattle.defs_token.specs.Indentation.{is_indented_by_spaces, colon_may_precede}
use Rattle.defs_token.specs.Key.{waits, is_near, begins_free_line}
use Rattle.defs_token.specs.RowAccount.{Account, is_in_flow}
use Rattle.defs_token.specs.Beginning.{IsPlace, BeginsButForKey}
use Rattle.yaml_tokens.specs.declared.problem.Problem.{Problem}
use Rattle.yaml_tokens.specs.declared.problem.Problem.TheVariants as problem
use Rattle.proof_lexers.specs.Separations.{begins_separation}
use Rattle.proof_scanner.specs.Failing.{is_taken, is_value_here}
use Rattle.proof_scanner.specs.First.{IsLookedAt, FailsFirst}

-- Whether no key waits at a place: of no beginning up to there one that is on this line and near, where no TAB indents what comes.
abbrev pub HasNoKey : (text separation rest : List ℕ) → (here : Position) → Type 0
HasNoKey text separation rest here =
    (b : Account) (begin : Position) → IsPlace text b separation rest here → b.line ≡ waits begin → begins_free_line b.site.before separation ≡ false → is_near begin here ≡ true → is_indented_by_spaces b.site.before b.site.blocks b.site.awaits separation ≡ true → ⊥

-- A text is stuck: a row may begin with all pieces up to a place, and what stands there fails. Or a row may begin so but for a key that must be one, inside a flow collection that has gone on to a later line, and what stands there fails.
pub data IsStuck (text : List ℕ) : Problem → Position → Type 0 where
  fails : (a : Account) (separation rest : List ℕ) (why : Problem) (here at : Position) → IsPlace text a separation rest here → is_empty rest ≡ false → begins_separation rest ≡ false → FailsFirst a separation here rest why at → IsStuck text why at
  -- or outside flow a colon stands on a line that is taken, so that no empty key begins there, and no key waits for it, whatever begins one before
  no_key : (a : Account) (separation more : List ℕ) (here : Position) → IsPlace text a separation (58 ∷ more) here → is_value_here a separation more ≡ true → is_in_flow a.entries ≡ false → is_taken a separation ≡ true → HasNoKey text separation (58 ∷ more) here → IsLookedAt a separation here (58 ∷ more) → colon_may_precede more ≡ true
      → IsStuck text problem.ValueNotAllowed here
  key_waits : (a : Account) (separation rest : List ℕ) (why : Problem) (begin here at : Position) → BeginsButForKey text (separation ++ rest) begin a → is_in_flow a.entries ≡ true → is_separation false separation rest ≡ true → here ≡ position_after a.site.position separation rest → begin.line < here.line
      → is_empty rest ≡ false → begins_separation rest ≡ false → FailsFirst a separation here rest why at → IsStuck text why at
