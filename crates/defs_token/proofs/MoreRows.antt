-- More tokens of short texts that are cuts of them, and those of their rows, by computing.
use Rattle.defs_token.proofs.Common.{[], block_end, block_entry, block_mapping_start, block_sequence_start, codes, document_end, document_start, double_quoted, flow_entry, flow_mapping_end, flow_mapping_start, flow_sequence_end, flow_sequence_start, folded, key, literal, scalar, tag, tag_directive, value, ◌∷◌}
use Rattle.defs_token.proofs.OnLiterals.{cut_on_literals}
use Rattle.defs_token.proofs.Shown.{at, piece, position, word}
use Rattle.defs_token.proofs.TokensOfText.{Begins, begins, Reads, reads}

record Rows : Type 0 where
  -- a directive of another name
  ignored_directive : Reads "%FOO bar\n--- a" (
      piece "" "%FOO bar" 0 1 0 (tag_directive [] []) ∷
      piece "\n" "---" 9 2 0 document_start ∷
      word " " "a" 13 2 4 ∷ []) "" (position 14 3 0)
  -- a verbatim tag
  verbatim : Reads "!<tag:x%41> a" (
      piece "" "!<tag:x%41>" 0 1 0 (tag [] (codes "tag:xA")) ∷
      word " " "a" 12 1 12 ∷ []) "" (position 13 2 0)
  -- a block scalar's token stands where its content begins
  block_scalar : Reads "a: |-\n\n   x\n\nb: >2 # c\n   y" (
      at 1 1 1 block_mapping_start ∷ at 0 1 0 key ∷ word "" "a" 0 1 0 ∷
      piece "" ":" 1 1 1 value ∷
      piece " " "|-\n\n   x\n\n" 10 3 3 (scalar literal (codes "\nx")) ∷
      at 13 5 0 key ∷ word "" "b" 13 5 0 ∷
      piece "" ":" 14 5 1 value ∷
      piece " " ">2 # c\n   y" 25 6 2 (scalar folded (codes " y\n")) ∷
      at 27 7 0 block_end ∷ []) "" (position 27 7 0)
  -- without content it stands at the further text
  empty_block_scalar : Reads "- |\n \n- x" (
      at 0 1 0 block_sequence_start ∷ piece "" "-" 2 1 2 block_entry ∷
      piece " " "|\n \n" 6 3 0 (scalar literal []) ∷
      piece "" "-" 8 3 2 block_entry ∷
      word " " "x" 8 3 2 ∷
      at 9 4 0 block_end ∷ []) "" (position 9 4 0)
  -- at the end of the text it stands at its header
  block_scalar_at_end : Reads "k: |+\n\n" (
      at 1 1 1 block_mapping_start ∷ at 0 1 0 key ∷ word "" "k" 0 1 0 ∷
      piece "" ":" 1 1 1 value ∷
      piece " " "|+\n\n" 3 1 3 (scalar literal (codes "\n")) ∷
      at 7 3 0 block_end ∷ []) "" (position 7 3 0)
  -- a document marker ends a plain scalar
  document_marker_ends : Reads "a\n---\nb\n..." (
      word "" "a" 0 1 0 ∷
      piece "\n" "---" 2 2 0 document_start ∷
      word "\n" "b" 6 3 0 ∷
      piece "\n" "..." 8 4 0 document_end ∷ []) "" (position 11 5 0)
  -- a closing bracket where no flow collection is open
  bracket_alone : Reads "a ]" (word "" "a ]" 0 1 0 ∷ []) "" (position 3 2 0)
  -- a pair ends before the bracket of its own level
  nested_pair : Reads "[a: [b, c]]" (
      piece "" "[" 0 1 0 flow_sequence_start ∷
      at 3 1 3 flow_mapping_start ∷ at 1 1 1 key ∷ word "" "a" 1 1 1 ∷
      piece "" ":" 2 1 2 value ∷
      piece " " "[" 4 1 4 flow_sequence_start ∷
      word "" "b" 5 1 5 ∷
      piece "" "," 6 1 6 flow_entry ∷
      word " " "c" 8 1 8 ∷
      piece "" "]" 9 1 9 flow_sequence_end ∷
      at 10 1 10 flow_mapping_end ∷ piece "" "]" 10 1 10 flow_sequence_end ∷ []) "" (position 11 2 0)
  -- tokens handed out before the stream's end
  begun : Begins "a: b\nc" (at 1 1 1 block_mapping_start ∷ at 0 1 0 key ∷ word "" "a" 0 1 0 ∷ piece "" ":" 1 1 1 value ∷ []) " b\nc"
  -- a key of which no more is known
  begun_at_key : Begins "a: b" (at 1 1 1 block_mapping_start ∷ at 0 1 0 key ∷ []) "a: b"
  -- a block scalar in column 0 ends at a document marker
  marker_ends_block : Reads "--- |\na\n---\nb\n" (
      piece "" "---" 0 1 0 document_start ∷
      piece " " "|\na\n" 6 2 0 (scalar literal (codes "a\n")) ∷
      piece "" "---" 8 3 0 document_start ∷
      word "\n" "b" 12 4 0 ∷ []) "\n" (position 14 5 0)
  -- positions count characters
  characters_count : Reads "a: |\n  éééééééééééééééééééé\nb: 1" (
      at 1 1 1 block_mapping_start ∷ at 0 1 0 key ∷ word "" "a" 0 1 0 ∷
      piece "" ":" 1 1 1 value ∷
      piece " " "|\n  éééééééééééééééééééé\n" 7 2 2 (scalar literal (codes "éééééééééééééééééééé\n")) ∷
      at 28 3 0 key ∷ word "" "b" 28 3 0 ∷
      piece "" ":" 29 3 1 value ∷
      word " " "1" 31 3 3 ∷
      at 32 4 0 block_end ∷ []) "" (position 32 4 0)
  -- a quoted scalar of one character that is no ASCII
  quoted_in_flow : Reads "[\"é\", 1]" (
      piece "" "[" 0 1 0 flow_sequence_start ∷
      piece "" "\"é\"" 1 1 1 (scalar double_quoted (codes "é")) ∷
      piece "" "," 4 1 4 flow_entry ∷
      word " " "1" 6 1 6 ∷
      piece "" "]" 7 1 7 flow_sequence_end ∷ []) "" (position 8 2 0)
  -- a quoted scalar over lines, with blank lines after it
  quoted_lines : Reads "\"a  \n  b\n\n c\\\n   d\"\n\n" (
      piece "" "\"a  \n  b\n\n c\\\n   d\"" 0 1 0 (scalar double_quoted (codes "a b\ncd")) ∷ []) "\n\n" (position 21 7 0)

rows : Rows
unfolding cut_on_literals
rows = search (reads, begins)
