-- What is wrong with a quoted scalar first: what stands before it in the text is not wrong.
use Rattle.std.specs.Prelude.{◌≡◌, ℕ, List, [], ◌∷◌, ◌++◌, Bool, true, false, replicate}
use Rattle.defs_text.specs.Classes.{space, tab, backslash, is_document_marker}
use Rattle.defs_text.specs.Position.{Position}
use Rattle.defs_text.specs.FlowScalar.{Element, content, blank, line_break, lines_of}
use Rattle.defs_token.specs.Lines.{further_lines_fit, quoted_lines_fit}
use Rattle.yaml_tokens.specs.declared.problem.Problem.{Problem}
use Rattle.proof_lexers.specs.QuotedScan.{element_of, has_marker}
use Rattle.proof_scanner.specs.NoPiece as none
use Rattle.proof_scanner.specs.NoPiece.{IsNotQuoted}
use Rattle.proof_scanner.specs.QuotedLines as lines
use Rattle.proof_scanner.specs.QuotedLines.{IsQuotedFault}

-- Whether the further lines of elements are indented to a column as far as they go: they are if an indented line after them ends the scalar.
abbrev pub are_indented : (least : ℕ) → List Element → Bool
are_indented least es = further_lines_fit least (lines_of (es ++ line_break ∷ replicate least (blank space)))

-- Nothing is wrong with the elements of a body before the text that follows it: no line begins with a document marker, and the further lines are indented.
abbrev pub AreFine : (least : ℕ) → (body next : List ℕ) → List Element → Type 0
AreFine least body next es = (has_marker body next ≡ false) × (are_indented least es ≡ true)

-- What is so before the reason why no quoted scalar begins with a quote and this text. A document marker stands right after a body whose lines are indented; a backslash stands in an indented line.
abbrev pub quoted_first : (single : Bool) (least : ℕ) (text : List ℕ) (why : Problem) → IsNotQuoted single text why → Type 0
quoted_first single least text why (none.by_marker body rest e has marks) = (is_document_marker rest ≡ true) × (are_indented least has.0 ≡ true)
quoted_first single least text why (none.by_end has) = AreFine least text [] has.0
quoted_first single least text why (none.by_escape body rest bad double e has is) = AreFine least body (backslash ∷ rest) (has.0 ++ content backslash ∷ [])

-- the same of a further line
abbrev pub lines_first : (single : Bool) (least : ℕ) (here : Position) (text : List ℕ) (why : Problem) (at : Position) → IsQuotedFault single least here text why at → Type 0
lines_first single least here text why at (lines.by_column body rest es e are solid further low) = AreFine least body rest es
lines_first single least here text why at (lines.by_tab body rest es e are further low) = AreFine least body (tab ∷ rest) es

-- What is so before the reason why a quoted scalar may not stand before what follows it: its further lines are indented.
abbrev pub closed_first : (single : Bool) (least : ℕ) (piece : List ℕ) → Type 0
closed_first single least piece = quoted_lines_fit least (element_of single) piece ≡ true
