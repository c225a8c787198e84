-- More rows that are none, by computing: keys in flow, columns in flow, and the line after a directive.
use Rattle.defs_token.proofs.Common.{[], alias, anchor, block_entry, codes, document_start, flow_entry, flow_mapping_end, flow_mapping_start, flow_sequence_end, flow_sequence_start, key, tag_directive, value, ◌∷◌}
use Rattle.defs_token.proofs.OnLiterals.{cut_on_literals}
use Rattle.defs_token.proofs.RowShown.{HasNoRow, has_no_row, keyed, piece, word}

record Rows : Type 0 where
  -- an explicit key where no key may begin
  question_in_value : HasNoRow "a: ? b" (keyed (word "" "a") ∷ piece "" ":" value ∷ piece " " "?" key ∷ word " " "b" ∷ [])
  -- an empty key where no key may begin
  colon_in_value : HasNoRow "a: : b" (word "" "a" ∷ piece "" ":" value ∷ piece " " ":" value ∷ word " " "b" ∷ [])
  -- a comma while a key waits
  comma_in_key : HasNoRow "[a] , : b" (
      keyed (piece "" "[" flow_sequence_start) ∷ word "" "a" ∷ piece "" "]" flow_sequence_end ∷
      piece " " "," flow_entry ∷ piece " " ":" value ∷ word " " "b" ∷ [])
  -- a closing bracket while a key waits
  bracket_in_key : HasNoRow "[a] ] : b" (
      keyed (piece "" "[" flow_sequence_start) ∷ word "" "a" ∷ piece "" "]" flow_sequence_end ∷
      piece " " "]" flow_sequence_end ∷ piece " " ":" value ∷ word " " "b" ∷ [])
  -- a dash while a key waits
  dash_in_key : HasNoRow "[a] - : b" (
      keyed (piece "" "[" flow_sequence_start) ∷ word "" "a" ∷ piece "" "]" flow_sequence_end ∷
      piece " " "-" block_entry ∷ piece " " ":" value ∷ word " " "b" ∷ [])
  -- an explicit key while a key waits
  question_in_key : HasNoRow "[a] ? : b" (
      keyed (piece "" "[" flow_sequence_start) ∷ word "" "a" ∷ piece "" "]" flow_sequence_end ∷ piece " " "?" key ∷
      piece " " ":" value ∷ word " " "b" ∷ [])
  -- a key without its colon
  key_without_colon : HasNoRow "a" (keyed (word "" "a") ∷ [])
  -- a key in flow without its colon
  key_in_flow_without_colon : HasNoRow "[a" (piece "" "[" flow_sequence_start ∷ keyed (word "" "a") ∷ [])
  -- a key inside an entry that has had a node
  second_key : HasNoRow "[&x a: b]" (
      piece "" "[" flow_sequence_start ∷ piece "" "&x" (anchor (codes "x")) ∷ keyed (word " " "a") ∷
      piece "" ":" value ∷ word " " "b" ∷ piece "" "]" flow_sequence_end ∷ [])
  -- a colon after a node that is no key
  colon_after_node : HasNoRow "[a: b]" (
      piece "" "[" flow_sequence_start ∷ word "" "a" ∷ piece "" ":" value ∷ word " " "b" ∷
      piece "" "]" flow_sequence_end ∷ [])
  -- a single pair's key and its colon on two lines
  key_on_two_lines : HasNoRow "[a\n: b]" (
      piece "" "[" flow_sequence_start ∷ keyed (word "" "a") ∷ piece "\n" ":" value ∷ word " " "b" ∷
      piece "" "]" flow_sequence_end ∷ [])
  -- a comma while a key waits in its entry
  comma_after_key : HasNoRow "[a, b]" (
      piece "" "[" flow_sequence_start ∷ keyed (word "" "a") ∷ piece "" "," flow_entry ∷ word " " "b" ∷
      piece "" "]" flow_sequence_end ∷ [])
  -- a closing bracket while a key waits in its entry
  bracket_after_key : HasNoRow "[a]" (
      piece "" "[" flow_sequence_start ∷ keyed (word "" "a") ∷ piece "" "]" flow_sequence_end ∷ [])
  -- `?` while a key waits in its entry
  question_after_key : HasNoRow "[*a ? : b]" (
      piece "" "[" flow_sequence_start ∷ keyed (piece "" "*a" (alias (codes "a"))) ∷ piece " " "?" key ∷
      piece " " ":" value ∷ word " " "b" ∷ piece "" "]" flow_sequence_end ∷ [])
  -- a marker while a key waits in its entry
  marker_after_key : HasNoRow "{*a\n--- : b}" (
      piece "" "{" flow_mapping_start ∷ keyed (piece "" "*a" (alias (codes "a"))) ∷ piece "\n" "---" document_start ∷
      piece " " ":" value ∷ word " " "b" ∷ piece "" "}" flow_mapping_end ∷ [])
  -- a key that waits where a key may begin again
  key_before_renewal : HasNoRow "{a\n#\nb: c}" (
      piece "" "{" flow_mapping_start ∷ keyed (word "" "a") ∷ word "\n#\n" "b" ∷ piece "" ":" value ∷ word " " "c" ∷
      piece "" "}" flow_mapping_end ∷ [])
  -- a bracket left of the least column
  flow_left : HasNoRow "a: [\n]" (
      keyed (word "" "a") ∷ piece "" ":" value ∷ piece " " "[" flow_sequence_start ∷ piece "\n" "]" flow_sequence_end ∷ [])
  -- a plain scalar in flow that is not deeper than the block
  flow_plain_left : HasNoRow "a: [b,\nc]" (
      keyed (word "" "a") ∷ piece "" ":" value ∷ piece " " "[" flow_sequence_start ∷ word "" "b" ∷
      piece "" "," flow_entry ∷ word "\n" "c" ∷ piece "" "]" flow_sequence_end ∷ [])
  -- a key after a directive's own break
  own_break : HasNoRow "%FOO\na: b" (
      piece "" "%FOO" (tag_directive [] []) ∷ keyed (word "\n" "a") ∷ piece "" ":" value ∷ word " " "b" ∷ [])

rows : Rows
unfolding cut_on_literals
rows = search has_no_row
