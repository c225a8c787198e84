-- Tokens of short texts that are cuts of them, and those of their rows, by computing. The lines are as in `Rows`.
use Rattle.defs_token.proofs.Common.{[], alias, anchor, block_end, block_entry, block_mapping_start, block_sequence_start, codes, document_end, document_start, double_quoted, flow_entry, flow_mapping_end, flow_mapping_start, flow_sequence_end, flow_sequence_start, key, plain, scalar, single_quoted, tag, tag_directive, value, version_directive, ◌∷◌}
use Rattle.defs_token.proofs.OnLiterals.{cut_on_literals}
use Rattle.defs_token.proofs.Shown.{at, piece, position, word}
use Rattle.defs_token.proofs.TokensOfText.{Reads, reads}

record Rows : Type 0 where
  -- a plain scalar of two lines is one piece
  two_lines : Reads "a\n b" (piece "" "a\n b" 0 1 0 (scalar plain (codes "a b")) ∷ []) "" (position 4 3 0)
  -- a plain scalar ends at a comment after a blank
  comment_after : Reads "- a # b\n- a#b" (
      at 0 1 0 block_sequence_start ∷ piece "" "-" 2 1 2 block_entry ∷
      word " " "a" 2 1 2 ∷
      piece " # b\n" "-" 10 2 2 block_entry ∷
      word " " "a#b" 10 2 2 ∷
      at 13 3 0 block_end ∷ []) "" (position 13 3 0)
  -- a mapping in a sequence, and a sequence at its key's column
  block_columns : Reads "- k: 1\n  l:\n  - 2" (
      at 0 1 0 block_sequence_start ∷ piece "" "-" 2 1 2 block_entry ∷
      at 3 1 3 block_mapping_start ∷ at 2 1 2 key ∷ word " " "k" 2 1 2 ∷
      piece "" ":" 3 1 3 value ∷
      word " " "1" 5 1 5 ∷
      at 9 2 2 key ∷ word "\n  " "l" 9 2 2 ∷
      piece "" ":" 10 2 3 value ∷
      piece "\n  " "-" 16 3 4 block_entry ∷
      word " " "2" 16 3 4 ∷
      at 17 4 0 block_end ∷ at 17 4 0 block_end ∷ []) "" (position 17 4 0)
  -- a sequence at its key's column has neither start nor end
  at_key_column : Reads "key:\n- item 1\n- item 2\n" (
      at 3 1 3 block_mapping_start ∷ at 0 1 0 key ∷ word "" "key" 0 1 0 ∷
      piece "" ":" 3 1 3 value ∷
      piece "\n" "-" 7 2 2 block_entry ∷
      word " " "item 1" 7 2 2 ∷
      piece "\n" "-" 16 3 2 block_entry ∷
      word " " "item 2" 16 3 2 ∷
      at 23 4 0 block_end ∷ []) "\n" (position 23 4 0)
  -- CR LF is one break
  carriage_returns : Reads "---\r\n- tok1\r\n- tok2" (
      piece "" "---" 0 1 0 document_start ∷
      at 5 2 0 block_sequence_start ∷ piece "\r\n" "-" 7 2 2 block_entry ∷
      word " " "tok1" 7 2 2 ∷
      piece "\r\n" "-" 15 3 2 block_entry ∷
      word " " "tok2" 15 3 2 ∷
      at 19 4 0 block_end ∷ []) "" (position 19 4 0)
  -- an empty text
  empty_text : Reads "" [] "" (position 0 1 0)
  -- a NUL ends the text
  nul_ends : Reads "a: b\0c: d" (
      at 1 1 1 block_mapping_start ∷ at 0 1 0 key ∷ word "" "a" 0 1 0 ∷
      piece "" ":" 1 1 1 value ∷
      word " " "b" 3 1 3 ∷
      at 4 2 0 block_end ∷ []) "" (position 4 2 0)
  -- in a flow mapping a colon before text begins a plain scalar
  value_colon : Reads "{a: :b}" (
      piece "" "{" 0 1 0 flow_mapping_start ∷
      at 1 1 1 key ∷ word "" "a" 1 1 1 ∷
      piece "" ":" 2 1 2 value ∷
      word " " ":b" 4 1 4 ∷
      piece "" "}" 6 1 6 flow_mapping_end ∷ []) "" (position 7 2 0)
  -- a key after its indicator in a flow mapping
  key_indicator : Reads "{\n  ? foo :,\n  : bar,\n}" (
      piece "" "{" 0 1 0 flow_mapping_start ∷
      piece "\n  " "?" 4 2 2 key ∷
      word " " "foo" 6 2 4 ∷
      piece " " ":" 10 2 8 value ∷
      piece "" "," 11 2 9 flow_entry ∷
      piece "\n  " ":" 15 3 2 value ∷
      word " " "bar" 17 3 4 ∷
      piece "" "," 20 3 7 flow_entry ∷
      piece "\n" "}" 22 4 0 flow_mapping_end ∷ []) "" (position 23 5 0)
  -- a colon next to a quoted scalar, and next to a flow collection
  adjacent : Reads "{\"a\":1,'b'\n:[c]}" (
      piece "" "{" 0 1 0 flow_mapping_start ∷
      at 1 1 1 key ∷ piece "" "\"a\"" 1 1 1 (scalar double_quoted (codes "a")) ∷
      piece "" ":" 4 1 4 value ∷
      word "" "1" 5 1 5 ∷
      piece "" "," 6 1 6 flow_entry ∷
      at 7 1 7 key ∷ piece "" "'b'" 7 1 7 (scalar single_quoted (codes "b")) ∷
      piece "\n" ":" 11 2 0 value ∷
      piece "" "[" 12 2 1 flow_sequence_start ∷
      word "" "c" 13 2 2 ∷
      piece "" "]" 14 2 3 flow_sequence_end ∷
      piece "" "}" 15 2 4 flow_mapping_end ∷ []) "" (position 16 3 0)
  -- a key after its indicator in a flow sequence opens no pair
  no_pair : Reads "[? : x]" (
      piece "" "[" 0 1 0 flow_sequence_start ∷
      piece "" "?" 1 1 1 key ∷
      piece " " ":" 3 1 3 value ∷
      word " " "x" 5 1 5 ∷
      piece "" "]" 6 1 6 flow_sequence_end ∷ []) "" (position 7 2 0)
  -- directives, anchors, tags and an alias
  declared : Reads "%YAML 1.2\n%TAG !a! x:\n--- [!a!p &n 1, *n ]\n...\n" (
      piece "" "%YAML 1.2" 0 1 0 (version_directive 1 2) ∷
      piece "\n" "%TAG !a! x:" 10 2 0 (tag_directive (codes "!a!") (codes "x:")) ∷
      piece "\n" "---" 22 3 0 document_start ∷
      piece " " "[" 26 3 4 flow_sequence_start ∷
      piece "" "!a!p" 27 3 5 (tag (codes "!a!") (codes "p")) ∷
      piece " " "&n" 32 3 10 (anchor (codes "n")) ∷
      word " " "1" 35 3 13 ∷
      piece "" "," 36 3 14 flow_entry ∷
      piece " " "*n" 38 3 16 (alias (codes "n")) ∷
      piece " " "]" 41 3 19 flow_sequence_end ∷
      piece "\n" "..." 43 4 0 document_end ∷ []) "\n" (position 47 5 0)

rows : Rows
unfolding cut_on_literals
rows = search reads
