-- Further lines of quoted scalars: where one begins, and what is wrong with it. YAML 1.2, sections 6.1 (indentation), 7.3 (flow scalars), 7.3.1 (escaped breaks).
use Rattle.std.specs.Prelude.{◌≡◌, ℕ, List, [], ◌∷◌, ◌++◌, Bool, true, false, not, nat_lt, Some}
use Rattle.defs_text.specs.Classes.{tab}
use Rattle.defs_text.specs.Position.{Position, position_after}
use Rattle.defs_text.specs.FlowScalar.{Element, content, blank, line_break, escaped_break, elements, begins_with}
use Rattle.defs_token.specs.Lines.{quoted_lines_fit}
use Rattle.yaml_tokens.specs.declared.problem.Problem.{Problem}
use Rattle.yaml_tokens.specs.declared.problem.Problem.TheVariants as problem
use Rattle.proof_lexers.specs.PlainEnds.{begins_solid}
use Rattle.proof_lexers.specs.QuotedScan.{element_of}
use Rattle.proof_scanner.specs.NoPiece.{quote_of, IsQuoted}

-- Where the elements between quotes have come to: within a line; at the start of a further line, after blanks alone; or directly after an escaped break.
pub data LineStand : Type 0 where
  within : LineStand
  at_start : LineStand
  past_escaped : LineStand

-- the same after an element more
abbrev pub past_element : LineStand → Element → LineStand
past_element s (content c) = within
past_element s line_break = at_start
past_element s escaped_break = past_escaped
past_element within (blank c) = within
past_element at_start (blank c) = at_start
past_element past_escaped (blank c) = at_start

abbrev pub past_elements : LineStand → List Element → LineStand
past_elements s [] = s
past_elements s (e ∷ es) = past_elements (past_element s e) es

-- Whether a further line begins with what comes next. The closing quote begins none directly after an escaped break.
abbrev pub begins_further : LineStand → (closes : Bool) → Bool
begins_further within closes = false
begins_further at_start closes = true
begins_further past_escaped closes = not closes

-- no quoted scalar with which a text begins has further lines that are all indented to a column
abbrev pub AreNotIndented : (single : Bool) → (least : ℕ) → (text : List ℕ) → Type 0
AreNotIndented single least text = (piece next : List ℕ) → text ≡ piece ++ next → IsQuoted single piece next → quoted_lines_fit least (element_of single) piece ≡ false

-- What is wrong with a quoted scalar that begins with a text at a position: a further line begins left of the least column; or a TAB stands there before its first character that is no blank.
pub data IsQuotedFault (single : Bool) (least : ℕ) (here : Position) (text : List ℕ) : Problem → Position → Type 0 where
  by_column : (body rest : List ℕ) (es : List Element) → text ≡ quote_of single ∷ (body ++ rest) → elements (element_of single) 0 body ≡ Some es → begins_solid rest ≡ true → begins_further (past_elements within es) (begins_with (quote_of single) rest) ≡ true
      → nat_lt (position_after here (quote_of single ∷ body) rest).col least ≡ true → IsQuotedFault single least here text problem.QuotedIndentation here
  by_tab : (body rest : List ℕ) (es : List Element) → text ≡ quote_of single ∷ (body ++ tab ∷ rest) → elements (element_of single) 0 body ≡ Some es → begins_further (past_elements within es) false ≡ true
      → nat_lt (position_after here (quote_of single ∷ body) (tab ∷ rest)).col least ≡ true → IsQuotedFault single least here text problem.TabAsIndentation (position_after here (quote_of single ∷ body) (tab ∷ rest))
