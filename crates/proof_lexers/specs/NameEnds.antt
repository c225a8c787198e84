-- How the scan of the name of an anchor or an alias ends, told by the text after its indicator. YAML 1.2, section 6.9.2.
use Rattle.std.specs.Prelude.{◌≡◌, ℕ, ◌+◌, List, ◌++◌, true, false, length}
use Rattle.defs_text.specs.Position.{Position}
use Rattle.yaml_tokens.specs.declared.problem.Fault.{Fault}
use Rattle.yaml_tokens.specs.declared.problem.Fault.TheVariants.{At}
use Rattle.yaml_tokens.specs.declared.problem.Problem.TheVariants as problem
use Rattle.model_scanner.specs.Machine.{Read}
use Rattle.defs_token.specs.Piece.{is_name, goes_on_with_name}

-- the position so many characters further in a line
abbrev pub further : ℕ → Position → Position
further n p = record { index = p.index + n; line = p.line; col = p.col + n }

-- what is left after an indicator at a position and a name
abbrev pub after_name : Position → (name rest : List ℕ) → Read (List ℕ)
after_name p name rest = record { rest = rest; position = further (1 + length name) p; value = name }

-- What is read of a text after an indicator at a position: the name that it begins with.
pub data IsNameRead (p : Position) (text : List ℕ) : Read (List ℕ) → Type 0 where
  named : (name rest : List ℕ) → text ≡ name ++ rest → is_name name ≡ true → goes_on_with_name rest ≡ false → IsNameRead p text (after_name p name rest)

-- Why it is refused: it begins with no name.
pub data IsNameRefusal (p : Position) (text : List ℕ) : Fault → Type 0 where
  nameless : goes_on_with_name text ≡ false → IsNameRefusal p text (At problem.AnchorName p)
