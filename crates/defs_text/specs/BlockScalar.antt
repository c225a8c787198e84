-- The value of a literal or folded block scalar, from its header, the column of the innermost open block collection, and its lines.
-- YAML 1.2, section 8.1.
--
-- Lines are given without their breaks. At the end of input this library has a rule of its own: a last line without a break that reaches the content column counts as one with a break.
use Rattle.std.specs.Prelude.{ℕ, zero, suc, ◌+◌, ◌-◌, List, [], ◌∷◌, ◌++◌, Bool, true, false, ◌&&◌, ◌||◌, ◌==◌, not, max, nat_le, if◌then◌else◌, replicate, drop, length, Option, Some, None}
use Rattle.defs_text.specs.Classes.{line_feed, space, tab, is_blank, is_break, is_nul, is_between, is_document_marker}
use Rattle.defs_text.specs.Breaks.{is_rest_of_line}

-- how a block scalar is written: `|` or `>`
pub data BlockStyle : Type 0 where
  literal : BlockStyle
  folded : BlockStyle

-- what happens to the breaks at a block scalar's end
pub data Chomping : Type 0 where
  strip : Chomping
  clip : Chomping
  keep : Chomping

-- A header: the style, the chomping, and the digit that gives the content column, where there is one.
pub record Header : Type 0 where
  pub style : BlockStyle
  pub chomping : Chomping
  pub digit : Option ℕ

-- ---- the text of a header (section 8.1.1)

-- the chomping that a sign gives
unfoldable pub sign_of : ℕ → Option Chomping
sign_of c = (if c == 45 then Some strip else (if c == 43 then Some keep else None))

-- the digit from 1 to 9 that a character is
unfoldable pub digit_of : ℕ → Option ℕ
digit_of c = (if is_between 49 57 c then Some (c - 48) else None)

-- a header, if nothing but blanks and a comment stands after its indicators
abbrev pub ended : Header → List ℕ → Option Header
ended h r = (if is_rest_of_line r then Some h else None)

-- after a sign: what a character is that is a digit, or none
abbrev pub digit_or_end : BlockStyle → Chomping → Option ℕ → ℕ → List ℕ → Option Header
digit_or_end s ch (Some d) c r = ended (record { style = s; chomping = ch; digit = Some d }) r
digit_or_end s ch None c r = ended (record { style = s; chomping = ch; digit = None }) (c ∷ r)

-- after a sign: a digit or none
abbrev pub after_sign : BlockStyle → Chomping → List ℕ → Option Header
after_sign s ch [] = Some (record { style = s; chomping = ch; digit = None })
after_sign s ch (c ∷ r) = digit_or_end s ch (digit_of c) c r

-- after a digit: what a character is that is a sign, or none
abbrev pub sign_or_end : BlockStyle → ℕ → Option Chomping → ℕ → List ℕ → Option Header
sign_or_end s d (Some ch) c r = ended (record { style = s; chomping = ch; digit = Some d }) r
sign_or_end s d None c r = ended (record { style = s; chomping = clip; digit = Some d }) (c ∷ r)

-- after a digit: a sign or none
abbrev pub after_digit : BlockStyle → ℕ → List ℕ → Option Header
after_digit s d [] = Some (record { style = s; chomping = clip; digit = Some d })
after_digit s d (c ∷ r) = sign_or_end s d (sign_of c) c r

-- the first character after the style, by what it is: a sign, a digit, or neither
abbrev pub first_indicator : BlockStyle → Option Chomping → Option ℕ → ℕ → List ℕ → Option Header
first_indicator s (Some ch) _ c r = after_sign s ch r
first_indicator s None (Some d) c r = after_digit s d r
first_indicator s None None c r = ended (record { style = s; chomping = clip; digit = None }) (c ∷ r)

-- after the style: the indicators
abbrev pub after_style : BlockStyle → List ℕ → Option Header
after_style s [] = Some (record { style = s; chomping = clip; digit = None })
after_style s (c ∷ r) = first_indicator s (sign_of c) (digit_of c) c r

-- The header that a text is, up to its line's end: `|` or `>`, a sign and a digit in either order, blanks and a comment.
abbrev pub header_of : List ℕ → Option Header
header_of [] = None
header_of (c ∷ r) = (if c == 124 then after_style literal r else (if c == 62 then after_style folded r else None))

-- ---- the lines after a header

-- How a block scalar's lines end: before further text, or at the end of input in a line without a break, which may be empty.
pub data Ending : Type 0 where
  further_text : Ending
  unbroken : (last : List ℕ) → Ending

-- What stands after a header: the end of input, or its break and lines, each with its own break, and how they end.
pub data Body : Type 0 where
  input_ends : Body
  body : (lines : List (List ℕ)) → Ending → Body

-- ---- the content column (section 8.1.1.1)

-- how many spaces a line begins with
abbrev pub leading_spaces : List ℕ → ℕ
leading_spaces [] = 0
leading_spaces (c ∷ l) = (if c == space then suc (leading_spaces l) else 0)

-- whether a line is spaces alone
abbrev pub is_spaces : List ℕ → Bool
is_spaces [] = true
is_spaces (c ∷ l) = (c == space) && is_spaces l

-- the greatest number of leading spaces among the lines of spaces alone before the first other line, and that line
abbrev pub deepest_start : List (List ℕ) → ℕ
deepest_start [] = 0
deepest_start (l ∷ ls) = (if is_spaces l then max (leading_spaces l) (deepest_start ls) else leading_spaces l)

-- the least content column inside the innermost open block collection
abbrev pub least_column : (collection : Option ℕ) → ℕ
least_column None = 0
least_column (Some n) = suc n

-- the column from which a header's digit counts
abbrev pub digit_base : (collection : Option ℕ) → ℕ
digit_base None = 0
digit_base (Some n) = n

-- the content column with a digit, and without one
abbrev pub column_by : (digit : Option ℕ) → (collection : Option ℕ) → List (List ℕ) → ℕ
column_by (Some d) collection lines = digit_base collection + d
column_by None collection lines = max (deepest_start lines) (least_column collection)

-- the lines, an unbroken last one too
abbrev pub all_lines : List (List ℕ) → Ending → List (List ℕ)
all_lines lines further_text = lines
all_lines lines (unbroken last) = lines ++ (last ∷ [])

-- The content column: what the digit says, or what the lines up to the first that isn't of spaces alone show.
abbrev pub content_column : Header → (collection : Option ℕ) → List (List ℕ) → Ending → ℕ
content_column h collection lines ending = column_by h.digit collection (all_lines lines ending)

-- ---- content lines and empty lines

-- A line of a block scalar: empty, or content, without the spaces before the content column.
pub data Row : Type 0 where
  empty_row : Row
  content_row : (text : List ℕ) → Row

-- An empty line is of spaces alone, at most as many as the content column.
unfoldable pub is_empty_line : (column : ℕ) → List ℕ → Bool
is_empty_line column l = is_spaces l && nat_le (length l) column

-- A content line has a character at the content column and spaces before it. In column 0 a document marker is no content line.
unfoldable pub is_content_line : (column : ℕ) → List ℕ → Bool
is_content_line column l = nat_le column (leading_spaces l) && nat_le (suc column) (length l) && not ((column == 0) && is_document_marker l)

-- what a line is, if it is one of the scalar's
unfoldable pub row_of : (column : ℕ) → List ℕ → Option Row
row_of column l = (if is_empty_line column l then Some empty_row else (if is_content_line column l then Some (content_row (drop column l)) else None))

-- a line before others, if all are the scalar's
abbrev pub put_row : Option Row → Option (List Row) → Option (List Row)
put_row (Some r) (Some rs) = Some (r ∷ rs)
put_row _ _ = None

-- the lines of a block scalar, if each is content or empty
abbrev pub rows_of : (column : ℕ) → List (List ℕ) → Option (List Row)
rows_of column [] = Some []
rows_of column (l ∷ ls) = put_row (row_of column l) (rows_of column ls)

-- ---- folding (section 8.1.3)

-- whether a content line starts with a blank
abbrev pub starts_blank : List ℕ → Bool
starts_blank [] = false
starts_blank (c ∷ l) = is_blank c

-- this number of line feeds
abbrev pub breaks : ℕ → List ℕ
breaks n = replicate n line_feed

-- what a folded break becomes
abbrev pub folded_break : (empty_lines : ℕ) → List ℕ
folded_break zero = space ∷ []
folded_break (suc n) = breaks (suc n)

-- What stands between two content lines with this number of empty lines between them: every break, except that folding applies if both lines are folded.
abbrev pub between_lines : BlockStyle → (empty_lines : ℕ) → (either_blank : Bool) → List ℕ
between_lines literal n _ = breaks (suc n)
between_lines folded n true = breaks (suc n)
between_lines folded n false = folded_break n

-- the text after a content line and so many empty ones, up to the last content line
abbrev pub text_after : BlockStyle → (line : List ℕ) → (empty_lines : ℕ) → List Row → List ℕ
text_after s l n [] = []
text_after s l n (empty_row ∷ rs) = text_after s l (suc n) rs
text_after s l n (content_row m ∷ rs) = between_lines s n (starts_blank l || starts_blank m) ++ m ++ text_after s m 0 rs

-- The text up to the last content line; an empty line before the first one is a line feed.
abbrev pub text_of : BlockStyle → List Row → List ℕ
text_of s [] = []
text_of s (empty_row ∷ rs) = line_feed ∷ text_of s rs
text_of s (content_row l ∷ rs) = l ++ text_after s l 0 rs

-- ---- chomping (section 8.1.1.2)

-- whether one of the lines is content
abbrev pub has_content : List Row → Bool
has_content [] = false
has_content (empty_row ∷ rs) = has_content rs
has_content (content_row l ∷ rs) = true

-- how many empty lines stand after so many others and the last content line
abbrev pub empty_after : (before : ℕ) → List Row → ℕ
empty_after n [] = n
empty_after n (empty_row ∷ rs) = empty_after (suc n) rs
empty_after n (content_row l ∷ rs) = empty_after 0 rs

-- What stands after the last content line: nothing; its break and the one that the end of input adds; or these and the empty lines' breaks.
abbrev pub tail : Chomping → (added : ℕ) → (empty_lines : ℕ) → List ℕ
tail strip added n = []
tail clip added n = breaks (suc added)
tail keep added n = breaks (suc added + n)

-- a scalar without a content line, after which further text follows
abbrev pub nothing_before_text : Chomping → (empty_lines : ℕ) → List ℕ
nothing_before_text strip n = []
nothing_before_text clip n = []
nothing_before_text keep n = breaks n

-- a scalar without a content line, at the end of input; the empty lines are those with a break
abbrev pub nothing_before_end : Chomping → (empty_lines : ℕ) → List ℕ
nothing_before_end strip n = []
nothing_before_end clip n = breaks 1
nothing_before_end keep n = breaks (max n 1)

-- ---- the value

-- the value of lines with content: their text, and what chomping leaves after it
abbrev pub with_content : Header → (added : ℕ) → List Row → List ℕ
with_content h added rows = text_of h.style rows ++ tail h.chomping added (empty_after 0 rows)

-- the value of lines before further text
abbrev pub value_before_text : Header → List Row → List ℕ
value_before_text h rows = (if has_content rows then with_content h 0 rows else nothing_before_text h.chomping (length rows))

-- At the end of input an unbroken last line of content counts as one with a break, and an empty one adds a break where it reaches the content column and at least column 1.
abbrev pub value_before_end : Header → (column : ℕ) → List Row → (last : List ℕ) → Row → List ℕ
value_before_end h column rows last (content_row l) = with_content h 0 (rows ++ (content_row l ∷ []))
value_before_end h column rows last empty_row =
    (if has_content rows then with_content h (if nat_le (max column 1) (length last) then 1 else 0) rows else nothing_before_end h.chomping (length rows))

-- the value of lines at the end of input, if each is one of the scalar's
abbrev pub value_at_end : Header → (column : ℕ) → (last : List ℕ) → Option (List Row) → Option Row → Option (List ℕ)
value_at_end h column last (Some rows) (Some r) = Some (value_before_end h column rows last r)
value_at_end h column last _ _ = None

-- the value of lines before further text, if each is one of the scalar's
abbrev pub value_at_text : Header → Option (List Row) → Option (List ℕ)
value_at_text h (Some rows) = Some (value_before_text h rows)
value_at_text h None = None

-- the value of lines whose content column is known
abbrev pub value_by : Header → (column : ℕ) → List (List ℕ) → Ending → Option (List ℕ)
value_by h column lines further_text = value_at_text h (rows_of column lines)
value_by h column lines (unbroken last) = value_at_end h column last (rows_of column lines) (row_of column last)

-- whether the first line starts with a TAB
abbrev pub starts_with_tab : List (List ℕ) → Bool
starts_with_tab ((c ∷ l) ∷ ls) = c == tab
starts_with_tab _ = false

-- The value of a block scalar. It has none if its first line starts with a TAB, or if a line is neither content nor empty.
abbrev pub block_value : Header → (collection : Option ℕ) → Body → Option (List ℕ)
block_value h collection input_ends = Some []
block_value h collection (body lines ending) =
    (if starts_with_tab (all_lines lines ending) then None else value_by h (content_column h collection lines ending) lines ending)

-- ---- where a block scalar ends

-- whether a text's first character that is no space stands before a column, and is neither a break nor the end
abbrev pub is_outside : (column : ℕ) → List ℕ → Bool
is_outside zero r = false
is_outside (suc n) [] = false
is_outside (suc n) (c ∷ r) = (if c == space then is_outside n r else not (is_break c) && not (is_nul c))

-- Whether a text that stands directly after a block scalar's last break is further text: it stands before the content column, or is a document marker where that is column 0.
abbrev pub is_further_text : (column : ℕ) → List ℕ → Bool
is_further_text zero r = is_document_marker r
is_further_text (suc n) r = is_outside (suc n) r
