-- Flow collections and their tokens.
use Rattle.model_scanner.proofs.Common.{[], codes, Ok, scan, Style, Tok, ◌∷◌, ◌≡◌}
use Rattle.yaml_tokens.specs.declared.problem.Problem.TheVariants as problem
use Rattle.model_scanner.proofs.OnLiterals.{scan_on_literals}
use Rattle.model_scanner.proofs.Rows.Words.{at, fails}

record Rows : Type 0 where
  -- the empty text has a start and an end
  empty : scan 5 (codes "") ≡ Ok (at 0 1 0 Tok.stream_start ∷ at 0 1 0 Tok.stream_end ∷ [])
  -- two entries
  sequence : scan 10 (codes "[1, 2]") ≡ Ok (at 0 1 0 Tok.stream_start ∷ at 0 1 0 Tok.flow_sequence_start ∷ at 1 1 1 (Tok.scalar Style.plain (codes "1")) ∷ at 2 1 2 Tok.flow_entry ∷ at 4 1 4 (Tok.scalar Style.plain (codes "2")) ∷ at 5 1 5 Tok.flow_sequence_end ∷ at 6 2 0 Tok.stream_end ∷ [])
  -- a sequence that is not closed is the parser's fault
  open_sequence : scan 7 (codes "[1") ≡ Ok (at 0 1 0 Tok.stream_start ∷ at 0 1 0 Tok.flow_sequence_start ∷ at 1 1 1 (Tok.scalar Style.plain (codes "1")) ∷ at 2 2 0 Tok.stream_end ∷ [])
  -- a `:` on the line after a quoted key
  objects : scan 24 (codes "{\"k\"\n:1,\"b\":[true,null,1e400,-0]}") ≡ Ok (at 0 1 0 Tok.stream_start ∷ at 0 1 0 Tok.flow_mapping_start ∷ at 1 1 1 Tok.key ∷ at 1 1 1 (Tok.scalar Style.double_quoted (codes "k")) ∷ at 5 2 0 Tok.value ∷ at 6 2 1 (Tok.scalar Style.plain (codes "1")) ∷ at 7 2 2 Tok.flow_entry ∷ at 8 2 3 Tok.key ∷ at 8 2 3 (Tok.scalar Style.double_quoted (codes "b")) ∷ at 11 2 6 Tok.value ∷ at 12 2 7 Tok.flow_sequence_start ∷ at 13 2 8 (Tok.scalar Style.plain (codes "true")) ∷ at 17 2 12 Tok.flow_entry ∷ at 18 2 13 (Tok.scalar Style.plain (codes "null")) ∷ at 22 2 17 Tok.flow_entry ∷ at 23 2 18 (Tok.scalar Style.plain (codes "1e400")) ∷ at 28 2 23 Tok.flow_entry ∷ at 29 2 24 (Tok.scalar Style.plain (codes "-0")) ∷ at 31 2 26 Tok.flow_sequence_end ∷ at 32 2 27 Tok.flow_mapping_end ∷ at 33 3 0 Tok.stream_end ∷ [])
  -- TABs in flow
  tabs : scan 13 (codes "{\n\t\"a\": [\n\t\t1\n\t]\n}") ≡ Ok (at 0 1 0 Tok.stream_start ∷ at 0 1 0 Tok.flow_mapping_start ∷ at 3 2 1 Tok.key ∷ at 3 2 1 (Tok.scalar Style.double_quoted (codes "a")) ∷ at 6 2 4 Tok.value ∷ at 8 2 6 Tok.flow_sequence_start ∷ at 12 3 2 (Tok.scalar Style.plain (codes "1")) ∷ at 15 4 1 Tok.flow_sequence_end ∷ at 17 5 0 Tok.flow_mapping_end ∷ at 18 6 0 Tok.stream_end ∷ [])
  -- a pair of a sequence ends at that sequence's bracket
  nested : scan 17 (codes "[a: [b, c]]") ≡ Ok (at 0 1 0 Tok.stream_start ∷ at 0 1 0 Tok.flow_sequence_start ∷ at 3 1 3 Tok.flow_mapping_start ∷ at 1 1 1 Tok.key ∷ at 1 1 1 (Tok.scalar Style.plain (codes "a")) ∷ at 2 1 2 Tok.value ∷ at 4 1 4 Tok.flow_sequence_start ∷ at 5 1 5 (Tok.scalar Style.plain (codes "b")) ∷ at 6 1 6 Tok.flow_entry ∷ at 8 1 8 (Tok.scalar Style.plain (codes "c")) ∷ at 9 1 9 Tok.flow_sequence_end ∷ at 10 1 10 Tok.flow_mapping_end ∷ at 10 1 10 Tok.flow_sequence_end ∷ at 11 2 0 Tok.stream_end ∷ [])
  -- an entry that begins with `?` opens no pair
  empty_key : scan 10 (codes "[? : x]") ≡ Ok (at 0 1 0 Tok.stream_start ∷ at 0 1 0 Tok.flow_sequence_start ∷ at 1 1 1 Tok.key ∷ at 3 1 3 Tok.value ∷ at 5 1 5 (Tok.scalar Style.plain (codes "x")) ∷ at 6 1 6 Tok.flow_sequence_end ∷ at 7 2 0 Tok.stream_end ∷ [])
  -- a `?` without key and value
  lone_key : scan 8 (codes "[? ]") ≡ Ok (at 0 1 0 Tok.stream_start ∷ at 0 1 0 Tok.flow_sequence_start ∷ at 1 1 1 Tok.key ∷ at 3 1 3 Tok.flow_sequence_end ∷ at 4 2 0 Tok.stream_end ∷ [])
  -- a pair of its own for each level
  pairs : scan 20 (codes "[a: b, {f: g}]") ≡ Ok (at 0 1 0 Tok.stream_start ∷ at 0 1 0 Tok.flow_sequence_start ∷ at 3 1 3 Tok.flow_mapping_start ∷ at 1 1 1 Tok.key ∷ at 1 1 1 (Tok.scalar Style.plain (codes "a")) ∷ at 2 1 2 Tok.value ∷ at 4 1 4 (Tok.scalar Style.plain (codes "b")) ∷ at 5 1 5 Tok.flow_mapping_end ∷ at 5 1 5 Tok.flow_entry ∷ at 7 1 7 Tok.flow_mapping_start ∷ at 8 1 8 Tok.key ∷ at 8 1 8 (Tok.scalar Style.plain (codes "f")) ∷ at 9 1 9 Tok.value ∷ at 11 1 11 (Tok.scalar Style.plain (codes "g")) ∷ at 12 1 12 Tok.flow_mapping_end ∷ at 13 1 13 Tok.flow_sequence_end ∷ at 14 2 0 Tok.stream_end ∷ [])
  -- a `:` that begins a word
  colon_in_word : scan 11 (codes "{a: :b}") ≡ Ok (at 0 1 0 Tok.stream_start ∷ at 0 1 0 Tok.flow_mapping_start ∷ at 1 1 1 Tok.key ∷ at 1 1 1 (Tok.scalar Style.plain (codes "a")) ∷ at 2 1 2 Tok.value ∷ at 4 1 4 (Tok.scalar Style.plain (codes ":b")) ∷ at 6 1 6 Tok.flow_mapping_end ∷ at 7 2 0 Tok.stream_end ∷ [])
  -- a `:` before a comma
  commas : scan 14 (codes "{\n  ? foo :,\n  : bar,\n}") ≡ Ok (at 0 1 0 Tok.stream_start ∷ at 0 1 0 Tok.flow_mapping_start ∷ at 4 2 2 Tok.key ∷ at 6 2 4 (Tok.scalar Style.plain (codes "foo")) ∷ at 10 2 8 Tok.value ∷ at 11 2 9 Tok.flow_entry ∷ at 15 3 2 Tok.value ∷ at 17 3 4 (Tok.scalar Style.plain (codes "bar")) ∷ at 20 3 7 Tok.flow_entry ∷ at 22 4 0 Tok.flow_mapping_end ∷ at 23 5 0 Tok.stream_end ∷ [])
  -- a `:` right after a flow collection
  adjacent : scan 18 (codes "[ {a: b}:c ]") ≡ Ok (at 0 1 0 Tok.stream_start ∷ at 0 1 0 Tok.flow_sequence_start ∷ at 9 1 9 Tok.flow_mapping_start ∷ at 2 1 2 Tok.key ∷ at 2 1 2 Tok.flow_mapping_start ∷ at 3 1 3 Tok.key ∷ at 3 1 3 (Tok.scalar Style.plain (codes "a")) ∷ at 4 1 4 Tok.value ∷ at 6 1 6 (Tok.scalar Style.plain (codes "b")) ∷ at 7 1 7 Tok.flow_mapping_end ∷ at 8 1 8 Tok.value ∷ at 9 1 9 (Tok.scalar Style.plain (codes "c")) ∷ at 11 1 11 Tok.flow_mapping_end ∷ at 11 1 11 Tok.flow_sequence_end ∷ at 12 2 0 Tok.stream_end ∷ [])
  -- no entries of block sequences in flow
  dash_in_flow : scan 4 (codes "[- a]") ≡ fails problem.BlockEntryInFlow 1 1 1
  -- the key of a pair in a sequence stands on the line of its `:`
  far_colon : scan 4 (codes "[a\n: b]") ≡ fails problem.ColonMisplaced 3 2 0

rows : Rows
unfolding scan_on_literals
rows = search
