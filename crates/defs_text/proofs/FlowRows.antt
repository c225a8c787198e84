-- Flow scalars and their values, by computing.
use Rattle.std.proofs.Common.{◌≡◌, [], ◌∷◌, Some, None}
use Rattle.std.specs.Prelude.{codes}
use Rattle.defs_text.specs.Classes.{is_blank, is_break, is_nul, are_marks}
use Rattle.defs_text.specs.FlowScalar.{plain_element, single_quoted_element, double_quoted_element, is_character_code, numeric_escape, escape, begins_with_marker, plain_value, single_quoted_value, double_quoted_value}

record DoubleQuotedRows : Type 0 where
  -- blanks around breaks go, an empty line is a line feed, an escaped break is nothing
  folds : double_quoted_value (codes "a  \n  b\n\n c\\\n   d") ≡ Some (codes "a b\ncd")
  -- escapes by number of two, four and eight digits
  by_number : double_quoted_value (codes "\\x41\\u00e9\\U0001F600") ≡ Some (65 ∷ 233 ∷ 0x1F600 ∷ [])
  -- escapes by letter
  by_letter : double_quoted_value (codes "\\0\\a\\b\\t\\n\\v\\f\\r\\e\\ \\\"\\/\\\\\\N\\_\\L\\P") ≡ Some (0 ∷ 7 ∷ 8 ∷ 9 ∷ 10 ∷ 11 ∷ 12 ∷ 13 ∷ 27 ∷ 32 ∷ 34 ∷ 47 ∷ 92 ∷ 0x85 ∷ 0xA0 ∷ 0x2028 ∷ 0x2029 ∷ [])
  -- three digits where four are due
  too_few_digits : double_quoted_value (codes "\\u00e") ≡ None
  -- a letter where a digit is due
  no_digit : double_quoted_value (codes "\\x4g") ≡ None
  -- no escape of that letter
  unknown_escape : double_quoted_value (codes "\\q") ≡ None
  -- the code of a surrogate
  surrogate : double_quoted_value (codes "\\ud83d") ≡ None
  -- the greatest code of a character
  last_character : double_quoted_value (codes "\\U0010FFFF") ≡ Some (0x10FFFF ∷ [])
  -- a code above it
  above_last_character : double_quoted_value (codes "\\U00110000") ≡ None
  -- a double quote would end the scalar
  quote_alone : double_quoted_value (codes "a\"b") ≡ None
  -- a backslash before nothing
  backslash_last : double_quoted_value (codes "a\\") ≡ None
  -- a NUL is the end of the text
  end_inside : double_quoted_value (97 ∷ 0 ∷ []) ≡ None
  -- an escaped blank is content and stays before a break, the blank after it goes
  escaped_blank : double_quoted_value (codes "a\\  \n b") ≡ Some (codes "a  b")
  -- blanks before the backslash of an escaped break stay
  blanks_before_escaped_break : double_quoted_value (codes "a \\\n b") ≡ Some (codes "a b")
  -- an empty line after an escaped break is one line feed each
  empty_after_escaped : double_quoted_value (codes "a\\\n\n\n b") ≡ Some (codes "a\n\nb")
  -- an escaped backslash does not escape the break
  backslash_then_break : double_quoted_value (codes "\\\\\na") ≡ Some (codes "\\ a")
  -- a line of an escaped break alone is not an empty line
  escaped_twice : double_quoted_value (codes "a\n\\\nb") ≡ Some (codes "a b")
  -- the line of the opening quote is not an empty line
  first_line_empty : double_quoted_value (codes "\na") ≡ Some (codes " a")
  -- one empty line between two breaks
  one_empty_line : double_quoted_value (codes "\n\n") ≡ Some (codes "\n")
  -- a document marker on a later line
  marker_inside : double_quoted_value (codes "a\n---\nb") ≡ None
  -- also after an escaped break
  marker_after_escaped : double_quoted_value (codes "a\\\n... b") ≡ None
  -- no marker where a blank stands before it
  marker_indented : double_quoted_value (codes "a\n ---\nb") ≡ Some (codes "a --- b")
  -- escaped line feeds are no breaks, so no document marker stands here
  marker_between_escapes : double_quoted_value (codes "a\\n---\\nb") ≡ Some (codes "a\n---\nb")

double_quoted_rows : DoubleQuotedRows
unfolding is_blank is_break is_nul are_marks plain_element double_quoted_element is_character_code numeric_escape escape begins_with_marker double_quoted_value
double_quoted_rows = search

record SingleQuotedRows : Type 0 where
  -- two single quotes are one
  doubled : single_quoted_value (codes "it''s") ≡ Some (codes "it's")
  -- one single quote alone is no body
  single_alone : single_quoted_value (codes "a'b") ≡ None
  -- a backslash in single quotes is itself
  backslash_is_itself : single_quoted_value (codes "a\\n") ≡ Some (codes "a\\n")
  -- blanks at the start and the end of the body stay
  own_blanks : single_quoted_value (codes " a ") ≡ Some (codes " a ")
  -- no marker directly before the closing quote
  marker_at_quote : single_quoted_value (codes "a\n---") ≡ Some (codes "a ---")
  -- no marker on the line of the opening quote
  marker_first : single_quoted_value (codes "---\na") ≡ Some (codes "--- a")

single_quoted_rows : SingleQuotedRows
unfolding is_blank is_break is_nul are_marks plain_element single_quoted_element begins_with_marker single_quoted_value
single_quoted_rows = search

record PlainRows : Type 0 where
  -- a plain scalar over lines
  plain_lines : plain_value (codes "a\n b\n\n c") ≡ Some (codes "a b\nc")
  -- CR LF, CR and LF are one break each
  breaks_alike : plain_value (codes "a\r\nb\rc\nd") ≡ Some (codes "a b c d")
  -- U+0085 and U+2028 are no breaks
  other_separators : plain_value (97 ∷ 0x85 ∷ 0x2028 ∷ 98 ∷ []) ≡ Some (97 ∷ 0x85 ∷ 0x2028 ∷ 98 ∷ [])

plain_rows : PlainRows
unfolding is_blank is_break are_marks plain_element begins_with_marker plain_value
plain_rows = search
