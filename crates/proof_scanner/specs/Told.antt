-- Which kinds of fault are told by the definitions, and what is stated of them.
use Rattle.std.specs.Prelude.{◌≡◌, ℕ, List, Bool, true, false}
use Rattle.defs_text.specs.Position.{Position}
use Rattle.defs_text.specs.Text.{has_no_nul}
use Rattle.yaml_tokens.specs.declared.problem.Fault.TheVariants.{At}
use Rattle.yaml_tokens.specs.declared.problem.Problem.{Problem}
use Rattle.yaml_tokens.specs.declared.problem.Problem.TheVariants as problem
use Rattle.model_scanner.specs.Run.{IsRefused}
use Rattle.proof_scanner.specs.Stuck.{IsStuck}

-- whether a kind of fault of the scanner is told: all are but these
abbrev pub is_told : Problem → Bool
is_told problem.KeyWithoutColon = false
is_told problem.KeyExpected = false
is_told _ = true

-- `refused_texts_are_stuck`
abbrev pub RefusedTextsAreStuck : Type 0
RefusedTextsAreStuck = (text : List ℕ) (why : Problem) (at : Position) → has_no_nul text ≡ true → IsRefused text (At why at) → is_told why ≡ true → IsStuck text why at
