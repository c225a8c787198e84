-- Texts with their rows, and their tokens with positions, by computing. A line has a step: the tokens before its piece, which have none,
-- and the piece with the separation before it, its token's position, and its token.
use Rattle.defs_token.proofs.Common.{[], alias, anchor, block_end, block_entry, block_mapping_start, block_sequence_start, codes, double_quoted, flow_entry, flow_mapping_end, flow_mapping_start, flow_sequence_end, flow_sequence_start, IsRead, key, List, plain, scalar, tag, value, Written, ◌∷◌}
use Rattle.defs_token.proofs.OnLiterals.{cut_on_literals}
use Rattle.defs_token.proofs.Shown.{at, piece, position, tokens_between, word}
use Rattle.defs_token.proofs.TokensOfText.{Reads, reads}

abbrev pub one_pair_row : List Written
one_pair_row =
    at 1 1 1 block_mapping_start ∷ at 0 1 0 key ∷ word "" "a" 0 1 0 ∷
    piece "" ":" 1 1 1 value ∷
    word " " "b" 3 1 3 ∷
    at 5 2 0 block_end ∷
    []

abbrev pub at_key_column_row : List Written
at_key_column_row =
    at 1 1 1 block_mapping_start ∷ at 0 1 0 key ∷ word "" "a" 0 1 0 ∷
    piece "" ":" 1 1 1 value ∷
    piece "\n" "-" 5 2 2 block_entry ∷
    word " " "b" 5 2 2 ∷
    at 7 3 0 key ∷ word "\n" "c" 7 3 0 ∷
    piece "" ":" 8 3 1 value ∷
    word " " "d" 10 3 3 ∷
    at 12 4 0 block_end ∷
    []

record Rows : Type 0 where
  -- nothing
  empty : Reads "" [] "" (position 0 1 0)
  -- one plain scalar
  one_scalar : Reads "a" (word "" "a" 0 1 0 ∷ []) "" (position 1 2 0)
  -- a plain scalar of two lines
  two_lines : Reads "a\n b\n" (piece "" "a\n b" 0 1 0 (scalar plain (codes "a b")) ∷ []) "\n" (position 5 3 0)
  -- a mapping stands before its implicit key, and its start has the position of the colon
  one_pair : Reads "a: b\n" one_pair_row "\n" (position 5 2 0)
  -- the second key joins the mapping
  two_pairs : Reads "a: b\nc: d\n" (
      at 1 1 1 block_mapping_start ∷ at 0 1 0 key ∷ word "" "a" 0 1 0 ∷
      piece "" ":" 1 1 1 value ∷
      word " " "b" 3 1 3 ∷
      at 5 2 0 key ∷ word "\n" "c" 5 2 0 ∷
      piece "" ":" 6 2 1 value ∷
      word " " "d" 8 2 3 ∷
      at 10 3 0 block_end ∷ []) "\n" (position 10 3 0)
  -- a deeper key opens a mapping; a key in an outer column ends the inner one
  nested : Reads "a:\n  b: c\nd: e\n" (
      at 1 1 1 block_mapping_start ∷ at 0 1 0 key ∷ word "" "a" 0 1 0 ∷
      piece "" ":" 1 1 1 value ∷
      at 6 2 3 block_mapping_start ∷ at 5 2 2 key ∷ word "\n  " "b" 5 2 2 ∷
      piece "" ":" 6 2 3 value ∷
      word " " "c" 8 2 5 ∷
      at 10 3 0 block_end ∷ at 10 3 0 key ∷ word "\n" "d" 10 3 0 ∷
      piece "" ":" 11 3 1 value ∷
      word " " "e" 13 3 3 ∷
      at 15 4 0 block_end ∷ []) "\n" (position 15 4 0)
  -- a dash's token stands after the blanks after it and a comment
  dashes : Reads "- a\n-  # c\n  b\n" (
      at 0 1 0 block_sequence_start ∷ piece "" "-" 2 1 2 block_entry ∷
      word " " "a" 2 1 2 ∷
      piece "\n" "-" 10 2 6 block_entry ∷
      word "  # c\n  " "b" 13 3 2 ∷
      at 15 4 0 block_end ∷ []) "\n" (position 15 4 0)
  -- sequences in a sequence, ended by the first piece left of their column
  dash_dash : Reads "- - a\n  - b\n- c\n" (
      at 0 1 0 block_sequence_start ∷ piece "" "-" 2 1 2 block_entry ∷
      at 2 1 2 block_sequence_start ∷ piece " " "-" 4 1 4 block_entry ∷
      word " " "a" 4 1 4 ∷
      piece "\n  " "-" 10 2 4 block_entry ∷
      word " " "b" 10 2 4 ∷
      at 12 3 0 block_end ∷ piece "\n" "-" 14 3 2 block_entry ∷
      word " " "c" 14 3 2 ∷
      at 16 4 0 block_end ∷ []) "\n" (position 16 4 0)
  -- a sequence at the column of its key has no start and no end
  at_key_column : Reads "a:\n- b\nc: d\n" at_key_column_row "\n" (position 12 4 0)
  -- an explicit key, and its value
  question : Reads "? a\n: b\n" (
      at 0 1 0 block_mapping_start ∷ piece "" "?" 0 1 0 key ∷
      word " " "a" 2 1 2 ∷
      piece "\n" ":" 4 2 0 value ∷
      word " " "b" 6 2 2 ∷
      at 8 3 0 block_end ∷ []) "\n" (position 8 3 0)
  -- a colon with an empty key
  empty_key : Reads ": a\n" (
      at 0 1 0 block_mapping_start ∷ piece "" ":" 0 1 0 value ∷
      word " " "a" 2 1 2 ∷
      at 4 2 0 block_end ∷ []) "\n" (position 4 2 0)
  -- after an empty key's colon a key may begin
  key_with_colon_next : Reads ": a: b\n" (
      at 0 1 0 block_mapping_start ∷ piece "" ":" 0 1 0 value ∷
      at 3 1 3 block_mapping_start ∷ at 2 1 2 key ∷ word " " "a" 2 1 2 ∷
      piece "" ":" 3 1 3 value ∷
      word " " "b" 5 1 5 ∷
      at 7 2 0 block_end ∷ at 7 2 0 block_end ∷ []) "\n" (position 7 2 0)
  -- a key begins with its first property
  properties : Reads "&x !t a: *x \n" (
      at 7 1 7 block_mapping_start ∷ at 0 1 0 key ∷ piece "" "&x" 0 1 0 (anchor (codes "x")) ∷
      piece " " "!t" 3 1 3 (tag (codes "!") (codes "t")) ∷
      word " " "a" 6 1 6 ∷
      piece "" ":" 7 1 7 value ∷
      piece " " "*x" 9 1 9 (alias (codes "x")) ∷
      at 13 2 0 block_end ∷ []) " \n" (position 13 2 0)
  -- an anchor before a mapping, on a line of its own
  anchors_apart : Reads "k:\n  &x\n  a: b\n" (
      at 1 1 1 block_mapping_start ∷ at 0 1 0 key ∷ word "" "k" 0 1 0 ∷
      piece "" ":" 1 1 1 value ∷
      piece "\n  " "&x" 5 2 2 (anchor (codes "x")) ∷
      at 11 3 3 block_mapping_start ∷ at 10 3 2 key ∷ word "\n  " "a" 10 3 2 ∷
      piece "" ":" 11 3 3 value ∷
      word " " "b" 13 3 5 ∷
      at 15 4 0 block_end ∷ at 15 4 0 block_end ∷ []) "\n" (position 15 4 0)
  -- entries of a flow sequence
  flow_sequence : Reads "[a, b]" (
      piece "" "[" 0 1 0 flow_sequence_start ∷
      word "" "a" 1 1 1 ∷
      piece "" "," 2 1 2 flow_entry ∷
      word " " "b" 4 1 4 ∷
      piece "" "]" 5 1 5 flow_sequence_end ∷ []) "" (position 6 2 0)
  -- an implicit key in a flow mapping has no start
  flow_mapping : Reads "{a: b, c}" (
      piece "" "{" 0 1 0 flow_mapping_start ∷
      at 1 1 1 key ∷ word "" "a" 1 1 1 ∷
      piece "" ":" 2 1 2 value ∷
      word " " "b" 4 1 4 ∷
      piece "" "," 5 1 5 flow_entry ∷
      word " " "c" 7 1 7 ∷
      piece "" "}" 8 1 8 flow_mapping_end ∷ []) "" (position 9 2 0)
  -- a single pair: its start has the position after its colon
  single_pair : Reads "[a: b]" (
      piece "" "[" 0 1 0 flow_sequence_start ∷
      at 3 1 3 flow_mapping_start ∷ at 1 1 1 key ∷ word "" "a" 1 1 1 ∷
      piece "" ":" 2 1 2 value ∷
      word " " "b" 4 1 4 ∷
      at 5 1 5 flow_mapping_end ∷ piece "" "]" 5 1 5 flow_sequence_end ∷ []) "" (position 6 2 0)
  -- a single pair with an empty key starts at its colon
  single_pair_empty : Reads "[: a, b]" (
      piece "" "[" 0 1 0 flow_sequence_start ∷
      at 2 1 2 flow_mapping_start ∷ piece "" ":" 1 1 1 value ∷
      word " " "a" 3 1 3 ∷
      at 4 1 4 flow_mapping_end ∷ piece "" "," 4 1 4 flow_entry ∷
      word " " "b" 6 1 6 ∷
      piece "" "]" 7 1 7 flow_sequence_end ∷ []) "" (position 8 2 0)
  -- a pair after `?` has no start
  asked_pair : Reads "[? a : b]" (
      piece "" "[" 0 1 0 flow_sequence_start ∷
      piece "" "?" 1 1 1 key ∷
      word " " "a" 3 1 3 ∷
      piece " " ":" 5 1 5 value ∷
      word " " "b" 7 1 7 ∷
      piece "" "]" 8 1 8 flow_sequence_end ∷ []) "" (position 9 2 0)
  -- a colon next to a quoted key
  adjacent : Reads "{\"a\":b}" (
      piece "" "{" 0 1 0 flow_mapping_start ∷
      at 1 1 1 key ∷ piece "" "\"a\"" 1 1 1 (scalar double_quoted (codes "a")) ∷
      piece "" ":" 4 1 4 value ∷
      word "" "b" 5 1 5 ∷
      piece "" "}" 6 1 6 flow_mapping_end ∷ []) "" (position 7 2 0)
  -- a colon next to a flow collection
  adjacent_collection : Reads "[[a]:b]" (
      piece "" "[" 0 1 0 flow_sequence_start ∷
      at 5 1 5 flow_mapping_start ∷ at 1 1 1 key ∷ piece "" "[" 1 1 1 flow_sequence_start ∷
      word "" "a" 2 1 2 ∷
      piece "" "]" 3 1 3 flow_sequence_end ∷
      piece "" ":" 4 1 4 value ∷
      word "" "b" 5 1 5 ∷
      at 6 1 6 flow_mapping_end ∷ piece "" "]" 6 1 6 flow_sequence_end ∷ []) "" (position 7 2 0)

rows : Rows
unfolding cut_on_literals
rows = search reads

-- two of them, for what their tokens mean
pub one_pair : IsRead (codes "a: b\n") (tokens_between one_pair_row (position 5 2 0))
one_pair = rows.one_pair.is_read

pub at_key_column : IsRead (codes "a:\n- b\nc: d\n") (tokens_between at_key_column_row (position 12 4 0))
at_key_column = rows.at_key_column.is_read
