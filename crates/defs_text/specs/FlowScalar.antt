-- The value of a scalar that is written plain, in single or in double quotes, from its body: the text between the quotes, or the plain text as it stands.
-- YAML 1.2, sections 5.7 (escapes), 6.5 (line folding) and 7.3 (flow scalar styles).
--
-- A body is read as characters, blanks and breaks, in which escapes and doubled quotes are already resolved.
-- Its lines lose the blanks around their breaks, and are then folded: a break is a space, or a line feed for each empty line after it.
use Rattle.std.specs.Prelude.{ℕ, zero, suc, ◌+◌, ◌*◌, List, [], ◌∷◌, ◌++◌, Bool, true, false, ◌&&◌, ◌||◌, ◌==◌, not, nat_le, if◌then◌else◌, replicate, take, length, Option, Some, None}
use Rattle.std.specs.Char.{digit_value, is_digit}
use Rattle.defs_text.specs.Classes.{line_feed, space, backslash, double_quote, single_quote, is_blank, is_break, is_nul, is_between, are_marks}
use Rattle.defs_text.specs.Breaks.{is_before_line_feed}

-- ---- what a body is made of

-- What a place of a body holds: a character that is content, a blank that is not escaped, a break, or a break after a backslash.
pub data Element : Type 0 where
  content : (code : ℕ) → Element
  blank : (code : ℕ) → Element
  line_break : Element
  escaped_break : Element

-- an element, and how many characters after its first one belong to it
pub record Spelled : Type 0 where
  pub element : Element
  pub further : ℕ

-- an element of one character
abbrev pub alone : Element → Option Spelled
alone e = Some (record { element = e; further = 0 })

-- how many characters after its first one a break has: one, the line feed of CR LF
abbrev pub break_further : ℕ → List ℕ → ℕ
break_further c r = (if is_before_line_feed c r then 1 else 0)

-- a character that means itself
unfoldable pub plain_element : ℕ → List ℕ → Option Spelled
plain_element c r =
    (if is_break c then Some (record { element = line_break; further = break_further c r }) else
    (if is_blank c then alone (blank c) else alone (content c)))

-- ---- single quotes

-- whether a text begins with this character
abbrev pub begins_with : ℕ → List ℕ → Bool
begins_with c [] = false
begins_with c (d ∷ r) = d == c

-- In single quotes two quotes are one; one alone would end the scalar, and so would the end of the text.
unfoldable pub single_quoted_element : ℕ → List ℕ → Option Spelled
single_quoted_element c r =
    (if is_nul c then None else
    (if c == single_quote then (if begins_with single_quote r then Some (record { element = content single_quote; further = 1 }) else None) else
    plain_element c r))

-- ---- double quotes

-- the escapes of one character: the character after the backslash, and the code it stands for
abbrev pub escapes : List (ℕ × ℕ)
escapes =
    (48, 0x00) ∷  -- 0
    (97, 0x07) ∷  -- a, the bell
    (98, 0x08) ∷  -- b, backspace
    (116, 0x09) ∷  -- t, horizontal tab
    (9, 0x09) ∷  -- a TAB itself
    (110, 0x0A) ∷  -- n, line feed
    (118, 0x0B) ∷  -- v, vertical tab
    (102, 0x0C) ∷  -- f, form feed
    (114, 0x0D) ∷  -- r, carriage return
    (101, 0x1B) ∷  -- e, escape
    (32, 0x20) ∷  -- a space itself
    (34, 0x22) ∷  -- the double quote
    (47, 0x2F) ∷  -- the slash
    (92, 0x5C) ∷  -- the backslash
    (78, 0x85) ∷  -- N, next line
    (95, 0xA0) ∷  -- _, non-breaking space
    (76, 0x2028) ∷  -- L, line separator
    (80, 0x2029) ∷  -- P, paragraph separator
    []

-- the escapes by number: the letter after the backslash, and how many hexadecimal digits follow it
abbrev pub numeric_escapes : List (ℕ × ℕ)
numeric_escapes =
    (120, 2) ∷  -- x
    (117, 4) ∷  -- u
    (85, 8) ∷  -- U
    []

-- what stands beside a number in such a table
abbrev pub lookup : ℕ → List (ℕ × ℕ) → Option ℕ
lookup c [] = None
lookup c (row ∷ rows) = (if c == row.0 then Some (row.1) else lookup c rows)

-- the number that a list of hexadecimal digits writes after those already read, if they are all digits
abbrev pub hexadecimal : (before : ℕ) → List ℕ → Option ℕ
hexadecimal n [] = Some n
hexadecimal n (c ∷ cs) = (if is_digit c 16 then hexadecimal (n * 16 + digit_value c) cs else None)

-- whether a number is the code of a character: at most U+10FFFF, and no surrogate
unfoldable pub is_character_code : ℕ → Bool
is_character_code n = nat_le n 0x10FFFF && not (is_between 0xD800 0xDFFF n)

-- the character of a code that so many digits write
abbrev pub numbered : (digits : ℕ) → Option ℕ → Option Spelled
numbered digits None = None
numbered digits (Some n) = (if is_character_code n then Some (record { element = content n; further = suc digits }) else None)

-- an escape by number; the text after its letter
unfoldable pub numeric_escape : (digits : ℕ) → List ℕ → Option Spelled
numeric_escape digits r = (if length (take digits r) == digits then numbered digits (hexadecimal 0 (take digits r)) else None)

-- an escape of one character, or one by number
abbrev pub escape_by : Option ℕ → Option ℕ → List ℕ → Option Spelled
escape_by (Some code) _ r = Some (record { element = content code; further = 1 })
escape_by None (Some digits) r = numeric_escape digits r
escape_by None None r = None

-- what a backslash and the text after it are
unfoldable pub escape : List ℕ → Option Spelled
escape [] = None
escape (c ∷ r) =
    (if is_break c then Some (record { element = escaped_break; further = suc (break_further c r) }) else
    escape_by (lookup c escapes) (lookup c numeric_escapes) r)

-- In double quotes a backslash escapes, and a double quote or the end of the text would end the scalar.
unfoldable pub double_quoted_element : ℕ → List ℕ → Option Spelled
double_quoted_element c r =
    (if is_nul c then None else
    (if c == double_quote then None else
    (if c == backslash then escape r else plain_element c r)))

-- ---- a body's elements

-- an element before others
abbrev pub put_before : Element → Option (List Element) → Option (List Element)
put_before e None = None
put_before e (Some es) = Some (e ∷ es)

-- an element, and the others after it
abbrev pub followed : Option Spelled → (ℕ → Option (List Element)) → Option (List Element)
followed None others = None
followed (Some s) others = put_before s.element (others s.further)

-- The elements of a body, after so many characters that belong to the element before.
abbrev pub elements : (ℕ → List ℕ → Option Spelled) → (belonging : ℕ) → List ℕ → Option (List Element)
elements at n [] = Some []
elements at (suc n) (c ∷ r) = elements at n r
elements at zero (c ∷ r) = followed (at c r) (λ n. elements at n r)

-- ---- lines

-- A body's lines: each but the last with whether the break after it is escaped.
pub data Lines : Type 0 where
  last_line : List Element → Lines
  line : List Element → (escaped : Bool) → Lines → Lines

-- lines whose first one begins with one element more
abbrev pub begun_with : Element → Lines → Lines
begun_with e (last_line l) = last_line (e ∷ l)
begun_with e (line l escaped ls) = line (e ∷ l) escaped ls

-- the lines of elements
abbrev pub lines_of : List Element → Lines
lines_of [] = last_line []
lines_of (line_break ∷ es) = line [] false (lines_of es)
lines_of (escaped_break ∷ es) = line [] true (lines_of es)
lines_of (content c ∷ es) = begun_with (content c) (lines_of es)
lines_of (blank c ∷ es) = begun_with (blank c) (lines_of es)

-- a line without the blanks at its start
abbrev pub without_leading_blanks : List Element → List Element
without_leading_blanks (blank c ∷ es) = without_leading_blanks es
without_leading_blanks es = es

-- an element before a line whose trailing blanks are gone; a blank before nothing goes too
abbrev pub unless_trailing : Element → List Element → List Element
unless_trailing (blank c) [] = []
unless_trailing e es = e ∷ es

-- a line without the blanks at its end
abbrev pub without_trailing_blanks : List Element → List Element
without_trailing_blanks [] = []
without_trailing_blanks (e ∷ es) = unless_trailing e (without_trailing_blanks es)

-- A line before its break: before an escaped one it keeps its trailing blanks.
abbrev pub before_break : (escaped : Bool) → List Element → List Element
before_break true l = l
before_break false l = without_trailing_blanks l

-- the lines after the first, without the blanks around their breaks
abbrev pub trimmed_after : Lines → Lines
trimmed_after (last_line l) = last_line (without_leading_blanks l)
trimmed_after (line l escaped ls) = line (before_break escaped (without_leading_blanks l)) escaped (trimmed_after ls)

-- a body's lines without the blanks around their breaks; the body's own start and end stay
abbrev pub trimmed : Lines → Lines
trimmed (last_line l) = last_line l
trimmed (line l escaped ls) = line (before_break escaped l) escaped (trimmed_after ls)

-- ---- folding

-- the characters of a line
abbrev pub text_of : List Element → List ℕ
text_of [] = []
text_of (content c ∷ es) = c ∷ text_of es
text_of (blank c ∷ es) = c ∷ text_of es
text_of (line_break ∷ es) = text_of es
text_of (escaped_break ∷ es) = text_of es

-- what a break becomes that has so many empty lines after it
abbrev pub folded_break : (escaped : Bool) → (empty_lines : ℕ) → List ℕ
folded_break false zero = space ∷ []
folded_break true zero = []
folded_break _ (suc n) = replicate (suc n) line_feed

-- the text of the lines after a break, of which so many empty ones are already counted; a line is empty if nothing stands before its own break
abbrev pub folded_after : (escaped : Bool) → (empty_lines : ℕ) → Lines → List ℕ
folded_after escaped n (last_line l) = folded_break escaped n ++ text_of l
folded_after escaped n (line [] false ls) = folded_after escaped (suc n) ls
folded_after escaped n (line l escaped' ls) = folded_break escaped n ++ text_of l ++ folded_after escaped' 0 ls

-- the text of lines
abbrev pub folded : Lines → List ℕ
folded (last_line l) = text_of l
folded (line l escaped ls) = text_of l ++ folded_after escaped 0 ls

-- ---- document markers

-- whether a text begins with a document marker and a blank or break after it
unfoldable pub begins_with_marker : List ℕ → Bool
begins_with_marker (a ∷ b ∷ c ∷ d ∷ r) = are_marks a b c && (is_blank d || is_break d)
begins_with_marker _ = false

-- Whether a line after the first begins with a document marker. At a body's end no marker ends: a quote, or a plain text's next character, stands there.
abbrev pub has_document_marker : List ℕ → Bool
has_document_marker [] = false
has_document_marker (c ∷ r) = (is_break c && begins_with_marker r) || has_document_marker r

-- ---- the value

-- the text of a body's elements
abbrev pub folded_elements : Option (List Element) → Option (List ℕ)
folded_elements None = None
folded_elements (Some es) = Some (folded (trimmed (lines_of es)))

-- the value of a body, by how its elements are read
abbrev pub value_by : (ℕ → List ℕ → Option Spelled) → List ℕ → Option (List ℕ)
value_by at body = (if has_document_marker body then None else folded_elements (elements at 0 body))

-- the value of the body of a plain scalar
unfoldable pub plain_value : List ℕ → Option (List ℕ)
plain_value body = value_by plain_element body

-- the value of the text between two single quotes, if it is a body
unfoldable pub single_quoted_value : List ℕ → Option (List ℕ)
single_quoted_value body = value_by single_quoted_element body

-- the value of the text between two double quotes, if it is a body
unfoldable pub double_quoted_value : List ℕ → Option (List ℕ)
double_quoted_value body = value_by double_quoted_element body
