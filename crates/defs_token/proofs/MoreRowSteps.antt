-- More texts with their rows, and their tokens with positions, by computing.
use Rattle.defs_token.proofs.Common.{[], block_end, block_entry, block_mapping_start, block_sequence_start, codes, document_end, document_start, double_quoted, flow_entry, flow_mapping_end, flow_mapping_start, flow_sequence_end, flow_sequence_start, folded, key, literal, scalar, single_quoted, tag, tag_directive, value, version_directive, ◌∷◌}
use Rattle.defs_token.proofs.OnLiterals.{cut_on_literals}
use Rattle.defs_token.proofs.Shown.{at, piece, position, word}
use Rattle.defs_token.proofs.TokensOfText.{Reads, reads}

record Rows : Type 0 where
  -- a flow collection as a key; the pairs in it are their own
  flow_key : Reads "[a: b]: {c: d}\n" (
      at 6 1 6 block_mapping_start ∷ at 0 1 0 key ∷ piece "" "[" 0 1 0 flow_sequence_start ∷
      at 3 1 3 flow_mapping_start ∷ at 1 1 1 key ∷ word "" "a" 1 1 1 ∷
      piece "" ":" 2 1 2 value ∷
      word " " "b" 4 1 4 ∷
      at 5 1 5 flow_mapping_end ∷ piece "" "]" 5 1 5 flow_sequence_end ∷
      piece "" ":" 6 1 6 value ∷
      piece " " "{" 8 1 8 flow_mapping_start ∷
      at 9 1 9 key ∷ word "" "c" 9 1 9 ∷
      piece "" ":" 10 1 10 value ∷
      word " " "d" 12 1 12 ∷
      piece "" "}" 13 1 13 flow_mapping_end ∷
      at 15 2 0 block_end ∷ []) "\n" (position 15 2 0)
  -- a single pair whose value is a sequence with another
  nested_pairs : Reads "[a: [b: c]]" (
      piece "" "[" 0 1 0 flow_sequence_start ∷
      at 3 1 3 flow_mapping_start ∷ at 1 1 1 key ∷ word "" "a" 1 1 1 ∷
      piece "" ":" 2 1 2 value ∷
      piece " " "[" 4 1 4 flow_sequence_start ∷
      at 7 1 7 flow_mapping_start ∷ at 5 1 5 key ∷ word "" "b" 5 1 5 ∷
      piece "" ":" 6 1 6 value ∷
      word " " "c" 8 1 8 ∷
      at 9 1 9 flow_mapping_end ∷ piece "" "]" 9 1 9 flow_sequence_end ∷
      at 10 1 10 flow_mapping_end ∷ piece "" "]" 10 1 10 flow_sequence_end ∷ []) "" (position 11 2 0)
  -- a flow collection left open at the text's end
  open_flow : Reads "[a" (
      piece "" "[" 0 1 0 flow_sequence_start ∷
      word "" "a" 1 1 1 ∷ []) "" (position 2 2 0)
  -- a flow mapping's key may lie on another line than its colon
  many_lines : Reads "{a\n: b}" (
      piece "" "{" 0 1 0 flow_mapping_start ∷
      at 1 1 1 key ∷ word "" "a" 1 1 1 ∷
      piece "\n" ":" 3 2 0 value ∷
      word " " "b" 5 2 2 ∷
      piece "" "}" 6 2 3 flow_mapping_end ∷ []) "" (position 7 3 0)
  -- quoted scalars of several lines
  quoted : Reads "- \"a\n  b\"\n- 'c\n\n  d'\n" (
      at 0 1 0 block_sequence_start ∷ piece "" "-" 2 1 2 block_entry ∷
      piece " " "\"a\n  b\"" 2 1 2 (scalar double_quoted (codes "a b")) ∷
      piece "\n" "-" 12 3 2 block_entry ∷
      piece " " "'c\n\n  d'" 12 3 2 (scalar single_quoted (codes "c\nd")) ∷
      at 21 6 0 block_end ∷ []) "\n" (position 21 6 0)
  -- a closing quote directly after an escaped break may stand anywhere
  escaped_break : Reads "a: \"b\\\n\"\n" (
      at 1 1 1 block_mapping_start ∷ at 0 1 0 key ∷ word "" "a" 0 1 0 ∷
      piece "" ":" 1 1 1 value ∷
      piece " " "\"b\\\n\"" 3 1 3 (scalar double_quoted (codes "b")) ∷
      at 9 3 0 block_end ∷ []) "\n" (position 9 3 0)
  -- a literal scalar's position is where its content begins
  literal_block : Reads "a: |\n  b\n  c\nd: e\n" (
      at 1 1 1 block_mapping_start ∷ at 0 1 0 key ∷ word "" "a" 0 1 0 ∷
      piece "" ":" 1 1 1 value ∷
      piece " " "|\n  b\n  c\n" 7 2 2 (scalar literal (codes "b\nc\n")) ∷
      at 13 4 0 key ∷ word "" "d" 13 4 0 ∷
      piece "" ":" 14 4 1 value ∷
      word " " "e" 16 4 3 ∷
      at 18 5 0 block_end ∷ []) "\n" (position 18 5 0)
  -- a folded scalar with a header
  folded_block : Reads "- >-\n  a\n  b\n- c\n" (
      at 0 1 0 block_sequence_start ∷ piece "" "-" 2 1 2 block_entry ∷
      piece " " ">-\n  a\n  b\n" 7 2 2 (scalar folded (codes "a b")) ∷
      piece "" "-" 15 4 2 block_entry ∷
      word " " "c" 15 4 2 ∷
      at 17 5 0 block_end ∷ []) "\n" (position 17 5 0)
  -- after a block scalar a key may begin
  literal_then_key : Reads "|\n a\nb: c\n" (
      piece "" "|\n a\n" 3 2 1 (scalar literal (codes "a\n")) ∷
      at 6 3 1 block_mapping_start ∷ at 5 3 0 key ∷ word "" "b" 5 3 0 ∷
      piece "" ":" 6 3 1 value ∷
      word " " "c" 8 3 3 ∷
      at 10 4 0 block_end ∷ []) "\n" (position 10 4 0)
  -- markers of documents end all collections
  documents : Reads "--- a\n...\n---\nb: c\n" (
      piece "" "---" 0 1 0 document_start ∷
      word " " "a" 4 1 4 ∷
      piece "\n" "..." 6 2 0 document_end ∷
      piece "\n" "---" 10 3 0 document_start ∷
      at 15 4 1 block_mapping_start ∷ at 14 4 0 key ∷ word "\n" "b" 14 4 0 ∷
      piece "" ":" 15 4 1 value ∷
      word " " "c" 17 4 3 ∷
      at 19 5 0 block_end ∷ []) "\n" (position 19 5 0)
  -- directives, and a tag with a declared handle
  directives : Reads "%YAML 1.2\n%TAG !e! x\n--- !e!a b\n" (
      piece "" "%YAML 1.2" 0 1 0 (version_directive 1 2) ∷
      piece "\n" "%TAG !e! x" 10 2 0 (tag_directive (codes "!e!") (codes "x")) ∷
      piece "\n" "---" 21 3 0 document_start ∷
      piece " " "!e!a" 25 3 4 (tag (codes "!e!") (codes "a")) ∷
      word " " "b" 30 3 9 ∷ []) "\n" (position 32 4 0)
  -- a directive of another name
  reserved : Reads "%FOO bar\n---\n" (
      piece "" "%FOO bar" 0 1 0 (tag_directive [] []) ∷
      piece "\n" "---" 9 2 0 document_start ∷ []) "\n" (position 13 3 0)
  -- a directive's own break lets no key begin
  own_break : Reads "%FOO\na" (
      piece "" "%FOO" 0 1 0 (tag_directive [] []) ∷
      word "\n" "a" 5 2 0 ∷ []) "" (position 6 3 0)
  -- a comma outside flow lets a key begin
  stray_comma : Reads "a: , b: c\n" (
      at 1 1 1 block_mapping_start ∷ at 0 1 0 key ∷ word "" "a" 0 1 0 ∷
      piece "" ":" 1 1 1 value ∷
      piece " " "," 3 1 3 flow_entry ∷
      at 6 1 6 block_mapping_start ∷ at 5 1 5 key ∷ word " " "b" 5 1 5 ∷
      piece "" ":" 6 1 6 value ∷
      word " " "c" 8 1 8 ∷
      at 10 2 0 block_end ∷ at 10 2 0 block_end ∷ []) "\n" (position 10 2 0)
  -- a closing bracket outside flow
  stray_bracket : Reads "] a" (
      piece "" "]" 0 1 0 flow_sequence_end ∷
      word " " "a" 2 1 2 ∷ []) "" (position 3 2 0)
  -- in flow, after a plain scalar and a break, a key may begin again
  renewed : Reads "[a\n#\nb: c]" (
      piece "" "[" 0 1 0 flow_sequence_start ∷
      word "" "a" 1 1 1 ∷
      at 7 3 2 flow_mapping_start ∷ at 5 3 0 key ∷ word "\n#\n" "b" 5 3 0 ∷
      piece "" ":" 6 3 1 value ∷
      word " " "c" 8 3 3 ∷
      at 9 3 4 flow_mapping_end ∷ piece "" "]" 9 3 4 flow_sequence_end ∷ []) "" (position 10 4 0)
  -- the start of a single pair, where a TAB follows its colon
  tab_after_colon : Reads "[a:\t\"b\"]" (
      piece "" "[" 0 1 0 flow_sequence_start ∷
      at 4 1 4 flow_mapping_start ∷ at 1 1 1 key ∷ word "" "a" 1 1 1 ∷
      piece "" ":" 2 1 2 value ∷
      piece "\t" "\"b\"" 4 1 4 (scalar double_quoted (codes "b")) ∷
      at 7 1 7 flow_mapping_end ∷ piece "" "]" 7 1 7 flow_sequence_end ∷ []) "" (position 8 2 0)
  -- a line of blanks may have a TAB before the least column
  blank_tab_line : Reads "a:\n\t\n  b\n" (
      at 1 1 1 block_mapping_start ∷ at 0 1 0 key ∷ word "" "a" 0 1 0 ∷
      piece "" ":" 1 1 1 value ∷
      word "\n\t\n  " "b" 7 3 2 ∷
      at 9 4 0 block_end ∷ []) "\n" (position 9 4 0)
  -- a carriage return and a line feed are one break
  crlf : Reads "- a\r\n- b\r\n" (
      at 0 1 0 block_sequence_start ∷ piece "" "-" 2 1 2 block_entry ∷
      word " " "a" 2 1 2 ∷
      piece "\r\n" "-" 7 2 2 block_entry ∷
      word " " "b" 7 2 2 ∷
      at 10 3 0 block_end ∷ []) "\r\n" (position 10 3 0)
  -- what is awaited after a colon lies deeper than the mapping
  least_column : Reads "a: [\n b\n ]\n" (
      at 1 1 1 block_mapping_start ∷ at 0 1 0 key ∷ word "" "a" 0 1 0 ∷
      piece "" ":" 1 1 1 value ∷
      piece " " "[" 3 1 3 flow_sequence_start ∷
      word "\n " "b" 6 2 1 ∷
      piece "\n " "]" 9 3 1 flow_sequence_end ∷
      at 11 4 0 block_end ∷ []) "\n" (position 11 4 0)
  -- at the end, collections deeper than the last line end at the text's end
  end_left : Reads "a:\n  - b\n " (
      at 1 1 1 block_mapping_start ∷ at 0 1 0 key ∷ word "" "a" 0 1 0 ∷
      piece "" ":" 1 1 1 value ∷
      at 5 2 2 block_sequence_start ∷ piece "\n  " "-" 7 2 4 block_entry ∷
      word " " "b" 7 2 4 ∷
      at 10 3 1 block_end ∷ at 10 4 0 block_end ∷ []) "\n " (position 10 4 0)

rows : Rows
unfolding cut_on_literals
rows = search reads
