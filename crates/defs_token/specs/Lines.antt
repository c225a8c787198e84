-- The further lines of a scalar that has several: they are indented, and not by TABs.
-- YAML 1.2, sections 6.1 (indentation), 6.3 (line prefixes), 7.3 (flow scalars).
use Rattle.std.specs.Prelude.{ℕ, List, [], ◌∷◌, ◌++◌, Bool, true, false, ◌&&◌, ◌||◌, ◌==◌, not, nat_le, length, Option, Some, None}
use Rattle.defs_text.specs.Classes.{is_blank, is_break}
use Rattle.defs_text.specs.Breaks.{split}
use Rattle.defs_text.specs.FlowScalar.{Element, blank, Spelled, Lines, last_line, line, single_quoted_element, double_quoted_element, elements, lines_of}
use Rattle.defs_text.specs.Tags.{leading}
use Rattle.defs_token.specs.Token.{Tok, scalar, plain, single_quoted, double_quoted}
use Rattle.defs_text.specs.Text.{is_empty}
use Rattle.defs_token.specs.Separation.{is_blanks}
use Rattle.defs_token.specs.Plain.{begins_flow}
use Rattle.defs_token.specs.Indentation.{has_tab_within}

-- ---- plain scalars

-- the lines after the first
abbrev pub after_first : List (List ℕ) → (last : List ℕ) → List (List ℕ)
after_first [] last = []
after_first (l ∷ ls) last = ls ++ (last ∷ [])

-- whether no line that holds more than blanks has a TAB among the blanks it begins with, before a column
abbrev pub lines_have_no_tab : (column : ℕ) → List (List ℕ) → Bool
lines_have_no_tab column [] = true
lines_have_no_tab column (l ∷ ls) = (is_blanks l || not (has_tab_within column (leading is_blank l))) && lines_have_no_tab column ls

-- No TAB indents a further line of a plain scalar.
abbrev pub plain_lines_fit : (column : ℕ) → (piece : List ℕ) → Bool
plain_lines_fit column piece = lines_have_no_tab column (after_first ((split piece).complete) ((split piece).last))

-- whether a text ends with a dash after a blank or a break
abbrev pub ends_with_dash : List ℕ → Bool
ends_with_dash [] = false
ends_with_dash (c ∷ []) = false
ends_with_dash (c ∷ d ∷ []) = (is_blank c || is_break c) && (d == 45)
ends_with_dash (c ∷ r) = ends_with_dash r

-- In flow no plain scalar has a dash between a blank or a break and a flow indicator. Section 7.3.3: there a dash begins no plain scalar either.
abbrev pub has_dash_before_flow : (piece next : List ℕ) → Bool
has_dash_before_flow piece next = ends_with_dash piece && begins_flow next

-- ---- quoted scalars

-- a text without its last character
abbrev pub without_last : List ℕ → List ℕ
without_last [] = []
without_last (c ∷ []) = []
without_last (c ∷ r) = c ∷ without_last r

-- the text between a piece's quotes
abbrev pub between_quotes : List ℕ → List ℕ
between_quotes [] = []
between_quotes (c ∷ r) = without_last r

-- the blanks with which a line begins
abbrev pub blanks_before : List Element → List ℕ
blanks_before (blank c ∷ es) = c ∷ blanks_before es
blanks_before _ = []

-- whether a line holds more than blanks
abbrev pub has_more : List Element → Bool
has_more [] = false
has_more (blank c ∷ es) = has_more es
has_more (e ∷ es) = true

-- Whether a line is indented to a column: no TAB stands before the column, and if the line holds something, it begins in the column or deeper.
abbrev pub line_fits : (column : ℕ) → (holds : Bool) → List Element → Bool
line_fits column holds l = not (has_tab_within column (blanks_before l)) && (not holds || nat_le column (length (blanks_before l)))

-- Whether lines are. The last one holds the closing quote, which may stand anywhere directly after an escaped break; a line with an escaped break holds its backslash.
abbrev pub lines_fit : (column : ℕ) → (after_escaped : Bool) → Lines → Bool
lines_fit column after_escaped (last_line l) = line_fits column (not (after_escaped && is_empty l)) l
lines_fit column after_escaped (line l escaped ls) = line_fits column (has_more l || escaped) l && lines_fit column escaped ls

-- whether the lines after the first are
abbrev pub further_lines_fit : (column : ℕ) → Lines → Bool
further_lines_fit column (last_line l) = true
further_lines_fit column (line l escaped ls) = lines_fit column escaped ls

-- the same of elements, if there are any
abbrev pub elements_fit : (column : ℕ) → Option (List Element) → Bool
elements_fit column None = false
elements_fit column (Some es) = further_lines_fit column (lines_of es)

-- The further lines of a quoted scalar are indented to the least column.
abbrev pub quoted_lines_fit : (column : ℕ) → (ℕ → List ℕ → Option Spelled) → (piece : List ℕ) → Bool
quoted_lines_fit column element piece = elements_fit column (elements element 0 (between_quotes piece))

-- ---- scalars

-- Whether the further lines of a scalar in flow style are indented to the least column.
abbrev pub further_lines_stand : (column : ℕ) → Tok → (piece : List ℕ) → Bool
further_lines_stand column (scalar plain text) piece = plain_lines_fit column piece
further_lines_stand column (scalar single_quoted text) piece = quoted_lines_fit column single_quoted_element piece
further_lines_stand column (scalar double_quoted text) piece = quoted_lines_fit column double_quoted_element piece
further_lines_stand column _ piece = true
