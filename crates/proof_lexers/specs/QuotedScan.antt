-- What the model of a quoted scalar's scan answers of a text, in the definitions' words.
use Rattle.std.specs.Prelude.{◌≡◌, ℕ, ◌+◌, List, [], ◌∷◌, ◌++◌, Bool, true, false, ◌&&◌, ◌||◌, ◌==◌, not, nat_lt, Option, Result, Ok, Err}
use Rattle.defs_text.specs.Position.{Position}
use Rattle.defs_text.specs.Classes.{is_break, is_document_marker}
use Rattle.defs_text.specs.FlowScalar.{Spelled, single_quoted_element, double_quoted_element, single_quoted_value, double_quoted_value, begins_with}
use Rattle.yaml_tokens.specs.declared.problem.Fault.{Fault}
use Rattle.yaml_tokens.specs.declared.problem.Fault.TheVariants.{At}
use Rattle.yaml_tokens.specs.declared.problem.Problem.TheVariants as problem
use Rattle.model_scanner.specs.declared.context.Context.{Context}
use Rattle.model_scanner.specs.Machine.{Read}

-- an element of a body in single or double quotes
abbrev pub element_of : (single : Bool) → ℕ → List ℕ → Option Spelled
element_of true = single_quoted_element
element_of false = double_quoted_element

-- the value of a body in single or double quotes
abbrev pub value_of : (single : Bool) → List ℕ → Option (List ℕ)
value_of true = single_quoted_value
value_of false = double_quoted_value

-- Whether a quote before this text ends a scalar: in single quotes a second one would not.
abbrev pub ends_before : (single : Bool) → List ℕ → Bool
ends_before single r = not (single && begins_with 39 r)

-- Whether a line after the first begins with a document marker, in a body and the text after it.
abbrev pub has_marker : (body rest : List ℕ) → Bool
has_marker [] r = false
has_marker (c ∷ a) r = (is_break c && is_document_marker (a ++ r)) || has_marker a r

-- a character other than NUL, with which a text ends
abbrev pub is_some : ℕ → Bool
is_some c = not (c == 0)

-- Why a scan refuses a body all the same: a line of it stands left of the innermost block collection, or a TAB stands there for indentation.
pub data IsShallow (ctx : Context) (start : Position) (x : Result (Read (List ℕ)) Fault) : Type 0 where
  by_line : (p : Position) → nat_lt (p.col + 1) ctx.indent ≡ true → x ≡ Err (At problem.QuotedIndentation start) → IsShallow ctx start x
  by_tab : (p : Position) → nat_lt (p.col + 1) ctx.indent ≡ true → x ≡ Err (At problem.TabAsIndentation p) → IsShallow ctx start x

-- The scan read just this text, up to the rest, or refused it for its indentation.
pub data IsRead (ctx : Context) (start : Position) (text rest : List ℕ) (x : Result (Read (List ℕ)) Fault) : Type 0 where
  read : (position : Position) → x ≡ Ok (record { rest = rest; position = position; value = text }) → IsRead ctx start text rest x
  shallow : IsShallow ctx start x → IsRead ctx start text rest x
