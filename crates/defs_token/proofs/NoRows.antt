-- Rows that are none, by computing. Each is refused by the rule that is named alone: without it, it would be one.
use Rattle.defs_token.proofs.Common.{[], block_entry, codes, document_end, double_quoted, flow_sequence_end, flow_sequence_start, key, literal, plain, scalar, value, ◌∷◌}
use Rattle.defs_token.proofs.OnLiterals.{cut_on_literals}
use Rattle.defs_token.proofs.RowShown.{HasNoRow, has_no_row, keyed, piece, word}

record Rows : Type 0 where
  -- a TAB indents the line of a value
  tab : HasNoRow "a:\n\tb" (keyed (word "" "a") ∷ piece "" ":" value ∷ word "\n\t" "b" ∷ [])
  -- after a plain scalar a TAB stands before the column of a value
  tab_after_plain : HasNoRow "a: [b\n\t]" (
      keyed (word "" "a") ∷ piece "" ":" value ∷ piece " " "[" flow_sequence_start ∷ word "" "b" ∷
      piece "\n\t" "]" flow_sequence_end ∷ [])
  -- a TAB indents the second line of a plain scalar
  plain_tab : HasNoRow "a: b\n\tc" (
      keyed (word "" "a") ∷ piece "" ":" value ∷ piece " " "b\n\tc" (scalar plain (codes "b c")) ∷ [])
  -- a TAB indents the second line of a quoted scalar
  quoted_tab : HasNoRow "a: \"b\n\tc\"" (
      keyed (word "" "a") ∷ piece "" ":" value ∷ piece " " "\"b\n\tc\"" (scalar double_quoted (codes "b c")) ∷ [])
  -- the second line of a quoted scalar is not indented
  quoted_column : HasNoRow "a: \"b\nc\"" (
      keyed (word "" "a") ∷ piece "" ":" value ∷ piece " " "\"b\nc\"" (scalar double_quoted (codes "b c")) ∷ [])
  -- text on the line of a quoted scalar
  after_quoted : HasNoRow "\"a\" b" (piece "" "\"a\"" (scalar double_quoted (codes "a")) ∷ word " " "b" ∷ [])
  -- the line after a header begins with a TAB
  header_tab : HasNoRow "a: |\n\tb" (
      keyed (word "" "a") ∷ piece "" ":" value ∷ piece " " "|\n" (scalar literal []) ∷ word "\t" "b" ∷ [])
  -- text that is deeper than the block, and before the content column of a scalar without content
  not_clear : HasNoRow "a: |\n   \n b" (
      keyed (word "" "a") ∷ piece "" ":" value ∷ piece " " "|\n   \n" (scalar literal []) ∷ word " " "b" ∷ [])
  -- a TAB between two dashes
  dash_tab : HasNoRow "-\t- a" (piece "" "-" block_entry ∷ piece "\t" "-" block_entry ∷ word " " "a" ∷ [])
  -- TABs alone between a colon and a letter
  colon_tab : HasNoRow "a:\tb" (keyed (word "" "a") ∷ piece "" ":" value ∷ word "\t" "b" ∷ [])
  -- a comment directly after a bracket
  bracket_comment : HasNoRow "[#\n]" (piece "" "[" flow_sequence_start ∷ piece "#\n" "]" flow_sequence_end ∷ [])
  -- a dash between a blank and a flow indicator
  plain_dash : HasNoRow "[a -]" (piece "" "[" flow_sequence_start ∷ word "" "a -" ∷ piece "" "]" flow_sequence_end ∷ [])
  -- text on the line of a document's end
  after_document_end : HasNoRow "... a" (piece "" "..." document_end ∷ word " " "a" ∷ [])
  -- a TAB between `?` and the next piece
  question_tab : HasNoRow "? \ta" (piece "" "?" key ∷ word " \t" "a" ∷ [])
  -- a key and its colon on two lines
  key_over_break : HasNoRow "a\n:" (keyed (word "" "a") ∷ piece "\n" ":" value ∷ [])
  -- a key of two lines
  key_with_break : HasNoRow "a\nb: c" (
      keyed (piece "" "a\nb" (scalar plain (codes "a b"))) ∷ piece "" ":" value ∷ word " " "c" ∷ [])
  -- a key where none may begin
  key_in_value : HasNoRow "a: b: c" (
      keyed (word "" "a") ∷ piece "" ":" value ∷ keyed (word " " "b") ∷ piece "" ":" value ∷ word " " "c" ∷ [])
  -- a node in the column of its mapping that is no key
  no_key : HasNoRow "a: b\nc" (keyed (word "" "a") ∷ piece "" ":" value ∷ word " " "b" ∷ word "\n" "c" ∷ [])
  -- a block scalar there
  no_key_block_scalar : HasNoRow "a: b\n|\n c" (
      keyed (word "" "a") ∷ piece "" ":" value ∷ word " " "b" ∷ piece "\n" "|\n c" (scalar literal (codes "c\n")) ∷ [])
  -- an entry where no key may begin
  dash_in_value : HasNoRow "a: - b" (keyed (word "" "a") ∷ piece "" ":" value ∷ piece " " "-" block_entry ∷ word " " "b" ∷ [])

rows : Rows
unfolding cut_on_literals
rows = search has_no_row
