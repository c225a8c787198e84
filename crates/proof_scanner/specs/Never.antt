-- A fault that no text has.
use Rattle.std.specs.Prelude.{◌≡◌, ℕ, List, true}
use Rattle.defs_text.specs.Position.{Position}
use Rattle.defs_text.specs.Text.{has_no_nul}
use Rattle.yaml_tokens.specs.declared.problem.Fault.TheVariants.{At}
use Rattle.yaml_tokens.specs.declared.problem.Problem.TheVariants as problem
use Rattle.model_scanner.specs.Run.{IsRefused}

-- `anchor_indentation_never_comes`
abbrev pub AnchorIndentationNeverComes : Type 0
AnchorIndentationNeverComes = (text : List ℕ) (at : Position) → has_no_nul text ≡ true → IsRefused text (At problem.AnchorIndentation at) → ⊥
