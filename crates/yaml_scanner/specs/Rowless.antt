-- A text that a scanner refuses has no row of tokens: by the definitions of rows alone, which no model takes part in.
use Rattle.std.specs.Prelude.{◌≡◌, ℕ, List, true}
use Rattle.defs_text.specs.Position.{Position}
use Rattle.defs_token.specs.Token.{Token}
use Rattle.defs_token.specs.Row.{IsRead}
use Rattle.yaml_tokens.specs.ErrorReport.{ErrorReport}
use Rattle.yaml_tokens.specs.Problem.{fault_of}
use Rattle.yaml_tokens.specs.declared.problem.Fault.TheVariants.{At}
use Rattle.yaml_tokens.specs.declared.problem.Problem.{Problem}
use Rattle.proof_scanner.specs.Stuck.{IsStuck}
use Rattle.proof_scanner.specs.Told.{is_told}

-- The text has no row, and the fault is of a kind, at a position. If the kind is told, a row may begin with all pieces up to a place, and there no piece begins, or the one that begins may not stand, as the fault says.
pub record HasNoRow (a : List ℕ) (f : ErrorReport) : Type 0 where
  pub why : Problem
  pub at : Position
  pub shown : f ≡ fault_of (At why at) at
  pub rowless : (ts : List Token) → IsRead a ts → ⊥
  pub stuck : is_told why ≡ true → IsStuck a why at
