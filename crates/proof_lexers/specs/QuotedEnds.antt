-- How the scan of a quoted scalar ends, told by the text after the opening quote.
use Rattle.std.specs.Prelude.{◌≡◌, ℕ, ◌+◌, List, [], ◌∷◌, ◌++◌, Bool, true, false, ◌==◌, nat_lt, if◌then◌else◌, take, length, Option, Some, None}
use Rattle.defs_text.specs.Position.{Position}
use Rattle.defs_text.specs.Classes.{is_break}
use Rattle.defs_text.specs.FlowScalar.{Element, elements, lookup, escapes, numeric_escapes, hexadecimal, is_character_code}
use Rattle.yaml_tokens.specs.declared.problem.Fault.{Fault}
use Rattle.yaml_tokens.specs.declared.problem.Fault.TheVariants.{At}
use Rattle.yaml_tokens.specs.declared.problem.Problem.{Problem}
use Rattle.yaml_tokens.specs.declared.problem.Problem.TheVariants as problem
use Rattle.model_scanner.specs.declared.context.Context.{Context}
use Rattle.model_scanner.specs.Machine.{Read}
use Rattle.model_scanner.specs.Quoted.{quote_of}
use Rattle.proof_lexers.specs.QuotedScan.{element_of, value_of, has_marker, ends_before}

-- a text between quotes is made of elements
abbrev pub HasElements : Bool → List ℕ → Type 0
HasElements single body = (es : List Element) × (elements (element_of single) 0 body ≡ Some es)

-- the number that so many hexadecimal digits write at a text's start, if they are there
abbrev pub number_at : (digits : ℕ) → List ℕ → Option ℕ
number_at digits r = (if length (take digits r) == digits then hexadecimal 0 (take digits r) else None)

-- What is wrong with an escape, by the text after its backslash: no character is known there; too few hexadecimal digits; or a code that is no character's.
pub data IsBadEscape : List ℕ → Problem → Type 0 where
  ends : IsBadEscape [] problem.UnknownEscape
  unknown : (c : ℕ) (r : List ℕ) → is_break c ≡ false → lookup c escapes ≡ None → lookup c numeric_escapes ≡ None → IsBadEscape (c ∷ r) problem.UnknownEscape
  no_digit : (c digits : ℕ) (r : List ℕ) → lookup c escapes ≡ None → lookup c numeric_escapes ≡ Some digits → number_at digits r ≡ None → IsBadEscape (c ∷ r) problem.HexadecimalDigit
  no_character : (c digits code : ℕ) (r : List ℕ) → lookup c escapes ≡ None → lookup c numeric_escapes ≡ Some digits → number_at digits r ≡ Some code → is_character_code code ≡ false
      → IsBadEscape (c ∷ r) problem.EscapedCode

-- Why the text after an opening quote at a position is refused: a line after the first begins with a document marker; the text ends before the scalar; an escape is none; or a position
-- of it stands left of the innermost block collection, where a TAB is refused for itself.
pub data IsQuotedRefusal (single : Bool) (ctx : Context) (start : Position) (text : List ℕ) : Fault → Type 0 where
  by_marker : (body rest : List ℕ) → text ≡ body ++ rest → HasElements single body → has_marker body rest ≡ true → IsQuotedRefusal single ctx start text (At problem.QuotedDocumentMarker start)
  by_end : HasElements single text → IsQuotedRefusal single ctx start text (At problem.QuotedEnd start)
  by_escape : (body rest : List ℕ) (p : Problem) → single ≡ false → text ≡ body ++ 92 ∷ rest → HasElements single body → IsBadEscape rest p → IsQuotedRefusal single ctx start text (At p start)
  by_column : (p : Position) → nat_lt (p.col + 1) ctx.indent ≡ true → IsQuotedRefusal single ctx start text (At problem.QuotedIndentation start)
  by_tab : (p : Position) → nat_lt (p.col + 1) ctx.indent ≡ true → IsQuotedRefusal single ctx start text (At problem.TabAsIndentation p)

-- What is read of a text: the value of a body that stands there, up to its closing quote.
pub record IsQuotedRead (single : Bool) (text : List ℕ) (r : Read (List ℕ)) : Type 0 where
  pub body : List ℕ
  pub is_text : text ≡ body ++ quote_of single ∷ r.rest
  pub is_value : value_of single body ≡ Some r.value
  pub may_end : ends_before single r.rest ≡ true
