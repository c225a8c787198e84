-- Block scalars and their values, by computing.
use Rattle.std.proofs.Common.{◌≡◌, ℕ, List, [], true, false, Option, Some, None}
use Rattle.std.specs.Prelude.{codes}
use Rattle.defs_text.specs.Classes.{is_blank, is_break, is_nul, are_marks, is_blank_or_end}
use Rattle.defs_text.specs.Breaks.{split}
use Rattle.defs_text.specs.BlockScalar.{BlockStyle, Chomping, further_text, unbroken, body, input_ends, sign_of, digit_of, header_of, is_empty_line, is_content_line, row_of, block_value, is_further_text}

-- the scalar of a header and the text after its break: the lines of that text, before the end of input
abbrev scalar_to_end : (header text : List ℕ) → (collection : Option ℕ) → Option (List ℕ)
scalar_to_end header text collection =
    elim (header_of header) [ None ↦ None | Some h ↦ block_value h collection (body ((split text).complete) (unbroken ((split text).last))) ]

-- the scalar of a header and the text after its break, before further text
abbrev scalar_before_text : (header text : List ℕ) → (collection : Option ℕ) → Option (List ℕ)
scalar_before_text header text collection =
    elim (header_of header) [ None ↦ None | Some h ↦ block_value h collection (body ((split text).complete) further_text) ]

record Rows : Type 0 where
  -- one break is a space, an empty line a line feed, and lines that start with a blank keep theirs
  folds : scalar_to_end (codes ">") (codes " a\n b\n\n c\n  d\n e\n") None ≡ Some (codes "a b\nc\n d\ne\n")
  -- the first content line gives the column; strip drops the last break
  literal_strip : scalar_to_end (codes "|-") (codes "                  a\n                      b\n") (Some 0) ≡ Some (codes "a\n    b")
  -- a digit counts from the collection's column
  digit_from_collection : scalar_to_end (codes "|1") (codes "  x\n") (Some 0) ≡ Some (codes " x\n")
  -- and from column 0 where none is open
  digit_from_nothing : scalar_to_end (codes "|1") (codes "  x\n") None ≡ Some (codes " x\n")
  -- keep keeps the empty lines
  keeps : scalar_to_end (codes "|+") (codes "a\n\n") None ≡ Some (codes "a\n\n")
  -- strip drops them and the last break
  strips : scalar_to_end (codes ">-") (codes "a\n\n") None ≡ Some (codes "a")
  -- clip drops the empty lines alone
  clips : scalar_to_end (codes "|") (codes " a\n\n\n") None ≡ Some (codes "a\n")
  -- an unbroken last line that reaches the content column adds a break
  end_adds : scalar_to_end (codes "|") (codes "  x\n  ") (Some 0) ≡ Some (codes "x\n\n")
  -- one that does not reach it adds none
  end_short : scalar_to_end (codes "|") (codes "  x\n ") (Some 0) ≡ Some (codes "x\n")
  -- and strip drops it
  end_strip : scalar_to_end (codes "|-") (codes "  x\n  ") (Some 0) ≡ Some (codes "x")
  -- an unbroken last line of content counts as broken
  end_content : scalar_to_end (codes "|") (codes " x\n y") None ≡ Some (codes "x\ny\n")
  -- in column 0 an empty last line adds none
  end_column_0 : scalar_to_end (codes "|") (codes "x\n") None ≡ Some (codes "x\n")
  -- no content before the end: strip
  empty_strip : scalar_to_end (codes "|-") (codes "\n \n") None ≡ Some (codes "")
  -- clip
  empty_clip : scalar_to_end (codes "|") (codes "\n \n") None ≡ Some (codes "\n")
  -- keep, with two empty lines
  empty_keep : scalar_to_end (codes "|+") (codes "\n \n") None ≡ Some (codes "\n\n")
  -- keep, with none
  empty_keep_none : scalar_to_end (codes "|+") (codes "") None ≡ Some (codes "\n")
  -- no content before further text: clip
  text_clip : scalar_before_text (codes "|") (codes "\n  \n") (Some 0) ≡ Some (codes "")
  -- keep
  text_keep : scalar_before_text (codes "|+") (codes "\n  \n") (Some 0) ≡ Some (codes "\n\n")
  -- empty lines before the content are a line feed each, folded too
  leading_empty : scalar_to_end (codes ">") (codes "\n  \n  a\n") (Some 0) ≡ Some (codes "\n\na\n")
  -- a line of more spaces than the first content line, before it, gives the column
  deeper_spaces : scalar_to_end (codes "|") (codes "   \n a\n") (Some 0) ≡ None
  -- after the first content line more spaces than the column are content
  spaces_are_content : scalar_to_end (codes "|") (codes " a\n   \n b\n") None ≡ Some (codes "a\n  \nb\n")
  -- every break stays where one of two lines starts with a blank
  blank_lines_fold : scalar_to_end (codes ">") (codes "a\n b\n\nc\nd\n") None ≡ Some (codes "a\n b\n\nc d\n")
  -- CR LF and CR are breaks
  breaks_alike : scalar_to_end (codes "|") (codes " a\r\n b\r c\n") None ≡ Some (codes "a\nb\nc\n")
  -- a first line that starts with a TAB
  tab_first : scalar_to_end (codes "|") (codes "\ta\n") None ≡ None
  -- a TAB before the content column
  tab_in_indentation : scalar_to_end (codes "|") (codes " a\n\tb\n") None ≡ None
  -- a document marker in column 0 is no line of it
  marker_at_0 : scalar_to_end (codes "|") (codes "a\n---\nb\n") None ≡ None
  -- in column 1 it is content
  marker_at_1 : scalar_to_end (codes "|") (codes " a\n ---\n") None ≡ Some (codes "a\n---\n")
  -- a header at the end of input
  header_alone : block_value (record { style = BlockStyle.literal; chomping = Chomping.keep; digit = None }) None input_ends ≡ Some []
  -- a sign before a digit
  header_both : header_of (codes "|-2") ≡ Some (record { style = BlockStyle.literal; chomping = Chomping.strip; digit = Some 2 })
  -- a digit before a sign, and a comment
  header_both_turned : header_of (codes ">9+ # c") ≡ Some (record { style = BlockStyle.folded; chomping = Chomping.keep; digit = Some 9 })
  -- a TAB before the comment
  header_tab : header_of (codes "|\t# c") ≡ Some (record { style = BlockStyle.literal; chomping = Chomping.clip; digit = None })
  -- the digit 0
  header_zero : header_of (codes "|0") ≡ None
  -- two digits
  header_two_digits : header_of (codes "|12") ≡ None
  -- two signs
  header_two_signs : header_of (codes "|+-") ≡ None
  -- a comment without a blank before it
  header_hash : header_of (codes "|#c") ≡ None
  -- text after the header
  header_text : header_of (codes "|- a") ≡ None
  -- a line before the content column is further text
  further : is_further_text 2 (codes " b: 1") ≡ true
  -- a line at the content column is none
  not_further : is_further_text 2 (codes "  b") ≡ false
  -- nor is an empty line
  not_further_empty : is_further_text 2 (codes " \n") ≡ false
  -- a document marker in column 0
  further_marker : is_further_text 0 (codes "---\n") ≡ true
  -- other text in column 0 is none
  not_further_0 : is_further_text 0 (codes "----") ≡ false

rows : Rows
unfolding is_blank is_break is_nul is_blank_or_end are_marks sign_of digit_of is_empty_line is_content_line row_of
rows = search
