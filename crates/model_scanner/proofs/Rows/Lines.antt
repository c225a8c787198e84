-- Block scalars and their tokens.
use Rattle.model_scanner.proofs.Common.{[], codes, Ok, scan, Style, Tok, ◌∷◌, ◌≡◌}
use Rattle.yaml_tokens.specs.declared.problem.Problem.TheVariants as problem
use Rattle.model_scanner.proofs.OnLiterals.{scan_on_literals}
use Rattle.model_scanner.proofs.Rows.Words.{at, fails}

record Rows : Type 0 where
  -- a literal scalar of one line
  literal : scan 6 (codes "|\n a\n") ≡ Ok (at 0 1 0 Tok.stream_start ∷ at 3 2 1 (Tok.scalar Style.literal (codes "a\n")) ∷ at 5 3 0 Tok.stream_end ∷ [])
  -- a document marker ends a block scalar at column 0
  markers : scan 9 (codes "--- |\na\n---\nb\n") ≡ Ok (at 0 1 0 Tok.stream_start ∷ at 0 1 0 Tok.document_start ∷ at 6 2 0 (Tok.scalar Style.literal (codes "a\n")) ∷ at 8 3 0 Tok.document_start ∷ at 12 4 0 (Tok.scalar Style.plain (codes "b")) ∷ at 14 5 0 Tok.stream_end ∷ [])
  -- lines that fold, and one that is indented more
  folded : scan 6 (codes ">\n a\n b\n\n c\n  d\n e\n") ≡ Ok (at 0 1 0 Tok.stream_start ∷ at 3 2 1 (Tok.scalar Style.folded (codes "a b\nc\n d\ne\n")) ∷ at 19 8 0 Tok.stream_end ∷ [])
  -- a content column past sixteen
  wide : scan 11 (codes "a: |-\n                  a\n                      b\n") ≡ Ok (at 0 1 0 Tok.stream_start ∷ at 1 1 1 Tok.block_mapping_start ∷ at 0 1 0 Tok.key ∷ at 0 1 0 (Tok.scalar Style.plain (codes "a")) ∷ at 1 1 1 Tok.value ∷ at 24 2 18 (Tok.scalar Style.literal (codes "a\n    b")) ∷ at 50 4 0 Tok.block_end ∷ at 50 4 0 Tok.stream_end ∷ [])
  -- an indentation indicator
  indicator : scan 9 (codes "- |1\n  x\n") ≡ Ok (at 0 1 0 Tok.stream_start ∷ at 0 1 0 Tok.block_sequence_start ∷ at 2 1 2 Tok.block_entry ∷ at 6 2 1 (Tok.scalar Style.literal (codes " x\n")) ∷ at 9 3 0 Tok.block_end ∷ at 9 3 0 Tok.stream_end ∷ [])
  -- breaks that are kept
  keep : scan 6 (codes "|+\na\n\n") ≡ Ok (at 0 1 0 Tok.stream_start ∷ at 3 2 0 (Tok.scalar Style.literal (codes "a\n\n")) ∷ at 6 4 0 Tok.stream_end ∷ [])
  -- breaks that are stripped
  strip : scan 6 (codes ">-\na\n\n") ≡ Ok (at 0 1 0 Tok.stream_start ∷ at 3 2 0 (Tok.scalar Style.folded (codes "a")) ∷ at 6 4 0 Tok.stream_end ∷ [])
  -- an indentation indicator of 0
  zero : scan 4 (codes "|0") ≡ fails problem.BlockScalarZero 0 1 0
  -- a TAB where content begins
  tab : scan 4 (codes "|\n\ta") ≡ fails problem.BlockScalarTab 0 1 0
  -- a key after a block scalar
  next : scan 15 (codes "a: |\n  xx\nb: 1") ≡ Ok (at 0 1 0 Tok.stream_start ∷ at 1 1 1 Tok.block_mapping_start ∷ at 0 1 0 Tok.key ∷ at 0 1 0 (Tok.scalar Style.plain (codes "a")) ∷ at 1 1 1 Tok.value ∷ at 7 2 2 (Tok.scalar Style.literal (codes "xx\n")) ∷ at 10 3 0 Tok.key ∷ at 10 3 0 (Tok.scalar Style.plain (codes "b")) ∷ at 11 3 1 Tok.value ∷ at 13 3 3 (Tok.scalar Style.plain (codes "1")) ∷ at 14 4 0 Tok.block_end ∷ at 14 4 0 Tok.stream_end ∷ [])
  -- the end of the text in a line that reaches the content column
  end : scan 11 (codes "a: |\n  x\n  ") ≡ Ok (at 0 1 0 Tok.stream_start ∷ at 1 1 1 Tok.block_mapping_start ∷ at 0 1 0 Tok.key ∷ at 0 1 0 (Tok.scalar Style.plain (codes "a")) ∷ at 1 1 1 Tok.value ∷ at 7 2 2 (Tok.scalar Style.literal (codes "x\n\n")) ∷ at 11 4 0 Tok.block_end ∷ at 11 4 0 Tok.stream_end ∷ [])
  -- a header at the end of the text
  header : scan 6 (codes "|") ≡ Ok (at 0 1 0 Tok.stream_start ∷ at 0 1 0 (Tok.scalar Style.literal (codes "")) ∷ at 1 2 0 Tok.stream_end ∷ [])
  -- U+0085 is no break
  next_line : scan 6 ((97 ∷ 133 ∷ 98 ∷ [])) ≡ Ok (at 0 1 0 Tok.stream_start ∷ at 0 1 0 (Tok.scalar Style.plain (97 ∷ 133 ∷ 98 ∷ [])) ∷ at 3 2 0 Tok.stream_end ∷ [])

rows : Rows
unfolding scan_on_literals
rows = search
