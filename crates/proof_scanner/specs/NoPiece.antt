-- Texts with which no piece begins, and what is wrong with each. YAML 1.2, sections 5.3 (indicators), 5.6, 5.7 (escapes), 6.8 (directives), 6.9 (properties), 7.3 (flow scalars), 8.1 (block scalars).
use Rattle.std.specs.Prelude.{◌≡◌, ℕ, List, [], ◌∷◌, ◌++◌, Bool, true, false, ◌==◌, nat_le, nat_lt, if◌then◌else◌, Option, Some, None, codes}
use Rattle.defs_text.specs.Breaks.{split, is_at_line_end, is_rest_of_line, has_no_break}
use Rattle.defs_text.specs.Classes.{tab, is_one_of, is_at_gap, is_at_end}
use Rattle.defs_text.specs.Position.{Position, position_after}
use Rattle.defs_text.specs.BlockScalar.{BlockStyle, header_of, leading_spaces}
use Rattle.defs_text.specs.BlockScalar as block
use Rattle.defs_text.specs.Directives.{directive_of}
use Rattle.defs_token.specs.BlockPiece.{BlockRead, block_read, past_spaces}
use Rattle.defs_token.specs.Piece.{goes_on_with_name, IsSingleQuoted, IsDoubleQuoted}
use Rattle.defs_token.specs.Plain.{inside, after_blank, on_line, begins_flow, goes_on}
use Rattle.defs_text.specs.FlowScalar.{begins_with}
use Rattle.defs_token.specs.Separation.{is_blanks, is_separation}
use Rattle.defs_token.specs.Column.{innermost}
use Rattle.defs_token.specs.Following.{quoted_may_end, are_empty}
use Rattle.defs_token.specs.Indentation.{least_column, begins_entry, begins_with_alpha}
use Rattle.yaml_tokens.specs.declared.problem.Fault.TheVariants.{At}
use Rattle.yaml_tokens.specs.declared.problem.Problem.{Problem}
use Rattle.yaml_tokens.specs.declared.problem.Problem.TheVariants as problem
use Rattle.proof_lexers.specs.DirectiveEnds.{IsDirectiveRefusal}
use Rattle.proof_lexers.specs.DirectiveEnds as directives
use Rattle.proof_lexers.specs.HeaderEnds.{indicator_of, is_in_line, has_zero, past_indicators}
use Rattle.proof_lexers.specs.HeaderEnds as headers
use Rattle.proof_lexers.specs.NameEnds.{further}
use Rattle.proof_lexers.specs.PlainEnds.{has_break, begins_token, stand_after, is_apart}
use Rattle.proof_lexers.specs.QuotedEnds.{HasElements, IsBadEscape}
use Rattle.proof_lexers.specs.QuotedScan.{has_marker}
use Rattle.proof_lexers.specs.Separations.{begins_separation, begins_white_space, has}
use Rattle.proof_lexers.specs.TagEnds.{IsTagRefusal}

-- the quote of a style
abbrev pub quote_of : (single : Bool) → ℕ
quote_of single = if single then 39 else 34

-- the indicator of a name
abbrev pub name_mark : (alias : Bool) → ℕ
name_mark alias = if alias then 42 else 38

-- whether a piece is a quoted scalar before the text after it
abbrev pub IsQuoted : (single : Bool) → (piece next : List ℕ) → Type 0
IsQuoted true piece next = (value : List ℕ) × IsSingleQuoted piece next value
IsQuoted false piece next = (value : List ℕ) × IsDoubleQuoted piece next value

-- no quoted scalar begins with a text
abbrev pub HasNoQuoted : (single : Bool) → (text : List ℕ) → Type 0
HasNoQuoted single text = (piece next : List ℕ) → text ≡ piece ++ next → IsQuoted single piece next → ⊥

-- Why no quoted scalar begins with a quote and this text: a document marker begins a line inside; no closing quote follows; or an escape is none.
pub data IsNotQuoted (single : Bool) (text : List ℕ) : Problem → Type 0 where
  by_marker : (body rest : List ℕ) → text ≡ body ++ rest → HasElements single body → has_marker body rest ≡ true → IsNotQuoted single text problem.QuotedDocumentMarker
  by_end : HasElements single text → IsNotQuoted single text problem.QuotedEnd
  by_escape : (body rest : List ℕ) (why : Problem) → single ≡ false → text ≡ body ++ 92 ∷ rest → HasElements single body → IsBadEscape rest why → IsNotQuoted single text why

-- Why no block scalar begins with an indicator in this column and this line: its digit is 0; or after its sign and digit comes a comment without a blank, or other text.
pub data IsNoHeader (style : BlockStyle) (here : Position) (line : List ℕ) : Problem → Position → Type 0 where
  by_zero : has_zero line ≡ true → IsNoHeader style here line problem.BlockScalarZero here
  by_comment : (h : block.Header) (before text : List ℕ) → header_of (indicator_of style ∷ before) ≡ Some h → line ≡ before ++ 35 ∷ text → IsNoHeader style here line problem.CommentNotSeparated (position_after here (indicator_of style ∷ before) (35 ∷ text))
  by_text : has_zero line ≡ false → is_rest_of_line (past_indicators line) ≡ false → begins_with 35 (past_indicators line) ≡ false → IsNoHeader style here line problem.BlockScalarHeader here

-- What is wrong with a text at a position, in flow or outside, with which no piece begins; and where the fault is.
pub data NoPiece (in_flow : Bool) (here : Position) (rest : List ℕ) : Problem → Position → Type 0 where
  -- `%` anywhere but in column 0, and the reserved indicators
  percent : (more : List ℕ) → rest ≡ 37 ∷ more → (here.col == 0) ≡ false → NoPiece in_flow here rest problem.UnexpectedPercent here
  at_sign : (more : List ℕ) → rest ≡ 64 ∷ more → NoPiece in_flow here rest problem.UnexpectedAt here
  backtick : (more : List ℕ) → rest ≡ 96 ∷ more → NoPiece in_flow here rest problem.UnexpectedBacktick here
  -- `&` or `*` without a name
  nameless : (alias : Bool) (more : List ℕ) → rest ≡ name_mark alias ∷ more → goes_on_with_name more ≡ false → NoPiece in_flow here rest problem.AnchorName here
  -- `!` and no tag
  tagless : (more : List ℕ) (why : Problem) → rest ≡ 33 ∷ more → IsTagRefusal in_flow more why → NoPiece in_flow here rest why here
  -- a quote and no quoted scalar
  unquoted : (single : Bool) (more : List ℕ) (why : Problem) → rest ≡ quote_of single ∷ more → HasNoQuoted single rest → IsNotQuoted single more why → NoPiece in_flow here rest why here
  -- outside flow `|` or `>` and a line that is no header
  headless : (style : BlockStyle) (line after : List ℕ) (why : Problem) (at : Position) → in_flow ≡ false → rest ≡ indicator_of style ∷ (line ++ after) → is_in_line line ≡ true → headers.ends_line after ≡ true
      → header_of (indicator_of style ∷ line) ≡ None → IsNoHeader style here line why at → NoPiece in_flow here rest why at
  -- `%` in column 0 and a line that is no directive
  undirected : (line next : List ℕ) (why : Problem) (at : Position) → here.col ≡ 0 → rest ≡ 37 ∷ (line ++ next) → has_no_break line ≡ true → directives.ends_line next ≡ true
      → directive_of (37 ∷ line) ≡ None → IsDirectiveRefusal here line (At why at) → NoPiece in_flow here rest why at

-- ---- plain scalars

-- whether a plain scalar that begins with a text's first character goes on over all of the text
abbrev pub goes_over : (in_flow : Bool) → (collection : Option ℕ) → (text next : List ℕ) → Bool
goes_over in_flow collection [] next = true
goes_over in_flow collection (c ∷ r) next = goes_on in_flow collection inside r next

-- What is wrong with a plain scalar that begins with a text at a position, in a block collection or none: in flow it begins left of the column of a value; in flow a dash stands before a flow indicator, at the start or after a blank or a break;
-- or a later line of it begins with a TAB before the column of a value, and holds more than blanks and a comment.
pub data IsPlainFault (in_flow : Bool) (collection : List ℕ) (here : Position) (text : List ℕ) : Problem → Position → Type 0 where
  by_column : in_flow ≡ true → nat_le (least_column collection true) here.col ≡ false → IsPlainFault in_flow collection here text problem.FlowIndentation here
  by_dash : (before rest : List ℕ) → in_flow ≡ true → text ≡ before ++ 45 ∷ rest → begins_flow rest ≡ true → goes_over in_flow (innermost collection) before (45 ∷ rest) ≡ true → is_apart (stand_after after_blank before) ≡ true
      → IsPlainFault in_flow collection here text problem.PlainDashInFlow (position_after here before (45 ∷ rest))
  by_tab : (before blanks rest : List ℕ) (column : ℕ) → text ≡ before ++ 9 ∷ (blanks ++ rest) → goes_over in_flow (innermost collection) before (9 ∷ (blanks ++ rest)) ≡ true → stand_after after_blank before ≡ on_line column
      → nat_lt column (least_column collection true) ≡ true → is_blanks blanks ≡ true → begins_token rest ≡ true → IsPlainFault in_flow collection here text problem.PlainTab here

-- ---- block scalars

-- What is wrong after a block scalar that begins with a text at a position outside flow, in a block collection or none: a TAB begins the line after the header;
-- or the scalar is without content, and the text after it is as deep as content of the block collection, but before the column of the scalar's content.
pub data IsBlockFault (collection : List ℕ) (here : Position) (text : List ℕ) : Problem → Position → Type 0 where
  by_tab : (piece header more : List ℕ) (h : block.Header) → text ≡ piece ++ tab ∷ more → split piece ≡ record { complete = header ∷ []; last = [] } → header_of header ≡ Some h → IsBlockFault collection here text problem.BlockScalarTab here
  by_column : (piece header next : List ℕ) (lines : List (List ℕ)) (b : BlockRead) → text ≡ piece ++ next → block_read (innermost collection) piece next ≡ Some b → is_at_end next ≡ false → (split piece).complete ≡ header ∷ lines → are_empty b.column lines ≡ true
      → nat_le (least_column collection true) (leading_spaces next) ≡ true → nat_lt (leading_spaces next) b.column ≡ true → IsBlockFault collection here text problem.BlockScalarIndentation (past_spaces (position_after here piece next) next)

-- ---- what follows a piece

-- Blanks and maybe a comment, which stand on one line, and the text after them.
pub record GoesOn (more passed content : List ℕ) : Type 0 where
  pub is_text : more ≡ passed ++ content
  pub is_filled : is_separation false passed content ≡ true
  pub is_on_line : has_break passed ≡ false

-- whether a character is a bracket or a comma
abbrev pub is_flow_indicator : ℕ → Bool
is_flow_indicator c = is_one_of (codes "[]{},") c

-- What is wrong with the text after a piece that begins at a position: a comment right after a bracket, a comma or a quoted scalar; text after `...` on its line, or after a quoted scalar what may not follow it; TABs after `-`, `?` or `:`; no space and no break after `?`.
pub data IsFollowed (in_flow : Bool) (here : Position) (rest : List ℕ) : Problem → Position → Type 0 where
  glued : (c : ℕ) (more : List ℕ) → rest ≡ c ∷ more → is_flow_indicator c ≡ true → begins_with 35 more ≡ true → IsFollowed in_flow here rest problem.CommentNotSeparated (further 1 here)
  glued_to_quoted : (single : Bool) (piece more : List ℕ) → rest ≡ piece ++ more → IsQuoted single piece more → begins_with 35 more ≡ true → IsFollowed in_flow here rest problem.CommentNotSeparated (position_after here piece more)
  after_quoted : (single : Bool) (piece more passed content : List ℕ) → rest ≡ piece ++ more → IsQuoted single piece more → quoted_may_end in_flow piece more ≡ false → GoesOn more passed content → begins_separation content ≡ false
      → IsFollowed in_flow here rest problem.ContentAfterQuoted (position_after (position_after here piece more) passed content)
  after_end : (more passed content : List ℕ) → here.col ≡ 0 → rest ≡ 46 ∷ 46 ∷ 46 ∷ more → is_at_gap more ≡ true → GoesOn more passed content → is_at_line_end content ≡ false → begins_separation content ≡ false
      → IsFollowed in_flow here rest problem.ContentAfterDocumentEnd (position_after (further 3 here) passed content)
  tab_after_dash : (more passed content : List ℕ) → in_flow ≡ false → rest ≡ 45 ∷ more → is_at_gap more ≡ true → GoesOn more passed content → has 9 passed ≡ true → begins_entry content ≡ true
      → IsFollowed in_flow here rest problem.TabAfterDash (position_after (further 1 here) passed content)
  no_space : (more passed content : List ℕ) → rest ≡ 63 ∷ more → is_at_gap more ≡ true → GoesOn more passed content → begins_with 32 more ≡ false → begins_white_space content ≡ false
      → IsFollowed in_flow here rest problem.WhitespaceExpected (position_after (further 1 here) passed content)
  tab_after_question : (more passed content : List ℕ) → rest ≡ 63 ∷ more → is_at_gap more ≡ true → more ≡ passed ++ 9 ∷ content → is_separation false passed (9 ∷ content) ≡ true
      → IsFollowed in_flow here rest problem.TabAfterKey (position_after (further 1 here) passed (9 ∷ content))
  tab_after_colon : (more passed content : List ℕ) → rest ≡ 58 ∷ more → begins_with 9 more ≡ true → GoesOn more passed content → has 32 passed ≡ false → begins_with_alpha content ≡ true
      → IsFollowed in_flow here rest problem.TabAfterColon (position_after (further 1 here) passed content)
