-- Block collections and their tokens.
use Rattle.model_scanner.proofs.Common.{[], codes, Ok, scan, Style, Tok, ◌∷◌, ◌≡◌}
use Rattle.yaml_tokens.specs.declared.problem.Problem.TheVariants as problem
use Rattle.model_scanner.proofs.OnLiterals.{scan_on_literals}
use Rattle.model_scanner.proofs.Rows.Words.{at, fails}

record Rows : Type 0 where
  -- two pairs
  mapping : scan 15 (codes "a: 1\nb: 2") ≡ Ok (at 0 1 0 Tok.stream_start ∷ at 1 1 1 Tok.block_mapping_start ∷ at 0 1 0 Tok.key ∷ at 0 1 0 (Tok.scalar Style.plain (codes "a")) ∷ at 1 1 1 Tok.value ∷ at 3 1 3 (Tok.scalar Style.plain (codes "1")) ∷ at 5 2 0 Tok.key ∷ at 5 2 0 (Tok.scalar Style.plain (codes "b")) ∷ at 6 2 1 Tok.value ∷ at 8 2 3 (Tok.scalar Style.plain (codes "2")) ∷ at 9 3 0 Tok.block_end ∷ at 9 3 0 Tok.stream_end ∷ [])
  -- two empty entries
  sequence : scan 9 (codes "-\n-") ≡ Ok (at 0 1 0 Tok.stream_start ∷ at 0 1 0 Tok.block_sequence_start ∷ at 1 1 1 Tok.block_entry ∷ at 3 2 1 Tok.block_entry ∷ at 3 3 0 Tok.block_end ∷ at 3 3 0 Tok.stream_end ∷ [])
  -- a key with `?`
  key : scan 9 (codes "? a") ≡ Ok (at 0 1 0 Tok.stream_start ∷ at 0 1 0 Tok.block_mapping_start ∷ at 0 1 0 Tok.key ∷ at 2 1 2 (Tok.scalar Style.plain (codes "a")) ∷ at 3 2 0 Tok.block_end ∷ at 3 2 0 Tok.stream_end ∷ [])
  -- a value without a key
  value : scan 9 (codes ": b") ≡ Ok (at 0 1 0 Tok.stream_start ∷ at 0 1 0 Tok.block_mapping_start ∷ at 0 1 0 Tok.value ∷ at 2 1 2 (Tok.scalar Style.plain (codes "b")) ∷ at 3 2 0 Tok.block_end ∷ at 3 2 0 Tok.stream_end ∷ [])
  -- a comment between key and value
  comment : scan 16 (codes "a:\n# note\n     - 1\n\n     - 2\n") ≡ Ok (at 0 1 0 Tok.stream_start ∷ at 1 1 1 Tok.block_mapping_start ∷ at 0 1 0 Tok.key ∷ at 0 1 0 (Tok.scalar Style.plain (codes "a")) ∷ at 1 1 1 Tok.value ∷ at 15 3 5 Tok.block_sequence_start ∷ at 17 3 7 Tok.block_entry ∷ at 17 3 7 (Tok.scalar Style.plain (codes "1")) ∷ at 27 5 7 Tok.block_entry ∷ at 27 5 7 (Tok.scalar Style.plain (codes "2")) ∷ at 29 6 0 Tok.block_end ∷ at 29 6 0 Tok.block_end ∷ at 29 6 0 Tok.stream_end ∷ [])
  -- a level of one column for an entry's mapping
  one_column : scan 22 (codes "s:\n  - server:\n    about: x") ≡ Ok (at 0 1 0 Tok.stream_start ∷ at 1 1 1 Tok.block_mapping_start ∷ at 0 1 0 Tok.key ∷ at 0 1 0 (Tok.scalar Style.plain (codes "s")) ∷ at 1 1 1 Tok.value ∷ at 5 2 2 Tok.block_sequence_start ∷ at 7 2 4 Tok.block_entry ∷ at 13 2 10 Tok.block_mapping_start ∷ at 7 2 4 Tok.key ∷ at 7 2 4 (Tok.scalar Style.plain (codes "server")) ∷ at 13 2 10 Tok.value ∷ at 19 3 4 Tok.key ∷ at 19 3 4 (Tok.scalar Style.plain (codes "about")) ∷ at 24 3 9 Tok.value ∷ at 26 3 11 (Tok.scalar Style.plain (codes "x")) ∷ at 27 4 0 Tok.block_end ∷ at 27 4 0 Tok.block_end ∷ at 27 4 0 Tok.block_end ∷ at 27 4 0 Tok.stream_end ∷ [])
  -- collections that begin after a dash
  compact : scan 25 (codes "- - a\n  - b\n-  c: d\n   e: f\n") ≡ Ok (at 0 1 0 Tok.stream_start ∷ at 0 1 0 Tok.block_sequence_start ∷ at 2 1 2 Tok.block_entry ∷ at 2 1 2 Tok.block_sequence_start ∷ at 4 1 4 Tok.block_entry ∷ at 4 1 4 (Tok.scalar Style.plain (codes "a")) ∷ at 10 2 4 Tok.block_entry ∷ at 10 2 4 (Tok.scalar Style.plain (codes "b")) ∷ at 12 3 0 Tok.block_end ∷ at 15 3 3 Tok.block_entry ∷ at 16 3 4 Tok.block_mapping_start ∷ at 15 3 3 Tok.key ∷ at 15 3 3 (Tok.scalar Style.plain (codes "c")) ∷ at 16 3 4 Tok.value ∷ at 18 3 6 (Tok.scalar Style.plain (codes "d")) ∷ at 23 4 3 Tok.key ∷ at 23 4 3 (Tok.scalar Style.plain (codes "e")) ∷ at 24 4 4 Tok.value ∷ at 26 4 6 (Tok.scalar Style.plain (codes "f")) ∷ at 28 5 0 Tok.block_end ∷ at 28 5 0 Tok.block_end ∷ at 28 5 0 Tok.stream_end ∷ [])
  -- a sequence at its key's column
  at_key : scan 14 (codes "key:\n- item 1\n- item 2\n") ≡ Ok (at 0 1 0 Tok.stream_start ∷ at 3 1 3 Tok.block_mapping_start ∷ at 0 1 0 Tok.key ∷ at 0 1 0 (Tok.scalar Style.plain (codes "key")) ∷ at 3 1 3 Tok.value ∷ at 7 2 2 Tok.block_entry ∷ at 7 2 2 (Tok.scalar Style.plain (codes "item 1")) ∷ at 16 3 2 Tok.block_entry ∷ at 16 3 2 (Tok.scalar Style.plain (codes "item 2")) ∷ at 23 4 0 Tok.block_end ∷ at 23 4 0 Tok.stream_end ∷ [])
  -- CR LF is one break
  carriage_returns : scan 12 (codes "---\r\n- tok1\r\n- tok2") ≡ Ok (at 0 1 0 Tok.stream_start ∷ at 0 1 0 Tok.document_start ∷ at 5 2 0 Tok.block_sequence_start ∷ at 7 2 2 Tok.block_entry ∷ at 7 2 2 (Tok.scalar Style.plain (codes "tok1")) ∷ at 15 3 2 Tok.block_entry ∷ at 15 3 2 (Tok.scalar Style.plain (codes "tok2")) ∷ at 19 4 0 Tok.block_end ∷ at 19 4 0 Tok.stream_end ∷ [])
  -- a mapping that is followed by a sequence at its column
  outdented : scan 13 (codes "a: 1\n- b") ≡ Ok (at 0 1 0 Tok.stream_start ∷ at 1 1 1 Tok.block_mapping_start ∷ at 0 1 0 Tok.key ∷ at 0 1 0 (Tok.scalar Style.plain (codes "a")) ∷ at 1 1 1 Tok.value ∷ at 3 1 3 (Tok.scalar Style.plain (codes "1")) ∷ at 7 2 2 Tok.block_entry ∷ at 7 2 2 (Tok.scalar Style.plain (codes "b")) ∷ at 8 3 0 Tok.block_end ∷ at 8 3 0 Tok.stream_end ∷ [])
  -- what stands at a mapping's column must be a key
  required : scan 9 (codes "a: 1\nb\nc: 2") ≡ fails problem.KeyWithoutColon 7 3 0
  -- a key at a sequence's column
  no_colon : scan 7 (codes "- a\nb") ≡ fails problem.KeyExpected 5 3 0
  -- a TAB between a `:` and a dash
  tab_after_colon : scan 4 (codes "a:\t- b") ≡ fails problem.TabAfterColon 3 1 3
  -- a TAB between two dashes
  tab_after_dash : scan 4 (codes "-\t- b") ≡ fails problem.TabAfterDash 2 1 2

rows : Rows
unfolding scan_on_literals
rows = search
