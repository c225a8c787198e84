-- The names of anchors and aliases (YAML 1.2, sections 6.9.2 and 7.1): the exact model.
use Rattle.std.specs.Prelude.{ℕ, List, [], ◌∷◌, if◌then◌else◌, Result, Ok, Err}
use Rattle.defs_text.specs.Position.{Position}
use Rattle.yaml_chars.specs.Class.{is_anchor}
use Rattle.defs_text.specs.Text.{is_empty}
use Rattle.yaml_tokens.specs.declared.problem.Fault.{Fault}
use Rattle.yaml_tokens.specs.declared.problem.Fault.TheVariants.{At}
use Rattle.yaml_tokens.specs.declared.problem.Problem.TheVariants as problem
use Rattle.model_scanner.specs.Machine.{Read, past, take_while}

-- a name has at least one character
abbrev pub some_name : Position → Read (List ℕ) → Result (Read (List ℕ)) Fault
some_name start r = (if is_empty r.value then Err (At problem.AnchorName start) else Ok r)

-- the name after the `&` or `*` that stands here
unfoldable pub anchor_name : List ℕ → Position → Result (Read (List ℕ)) Fault
anchor_name [] p = Err (At problem.AnchorName p)
anchor_name (c ∷ a) p = some_name p (take_while is_anchor a (past p) [])
