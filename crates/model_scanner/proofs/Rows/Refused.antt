-- Texts that the scanner refuses.
use Rattle.model_scanner.proofs.Common.{[], codes, Ok, scan, Style, Tok, ◌∷◌, ◌≡◌}
use Rattle.yaml_tokens.specs.declared.problem.Problem.TheVariants as problem
use Rattle.model_scanner.proofs.OnLiterals.{scan_on_literals}
use Rattle.model_scanner.proofs.Rows.Words.{at, fails}

record Rows : Type 0 where
  -- a value on the line of another
  second_colon : scan 9 (codes "a: b: c") ≡ fails problem.ValueNotAllowed 4 1 4
  -- a bracket too many, and a key over two lines
  misplaced : scan 5 (codes "\n# syntax error\nscalar\nkey: [1, 2]]\nkey1:a2\n") ≡ fails problem.ValueNotAllowed 26 4 3
  -- content left of its block collection's column
  left : scan 20 (codes "a:\n  - b\n c: d") ≡ Ok (at 0 1 0 Tok.stream_start ∷ at 1 1 1 Tok.block_mapping_start ∷ at 0 1 0 Tok.key ∷ at 0 1 0 (Tok.scalar Style.plain (codes "a")) ∷ at 1 1 1 Tok.value ∷ at 5 2 2 Tok.block_sequence_start ∷ at 7 2 4 Tok.block_entry ∷ at 7 2 4 (Tok.scalar Style.plain (codes "b")) ∷ at 10 3 1 Tok.block_end ∷ at 11 3 2 Tok.block_mapping_start ∷ at 10 3 1 Tok.key ∷ at 10 3 1 (Tok.scalar Style.plain (codes "c")) ∷ at 11 3 2 Tok.value ∷ at 13 3 4 (Tok.scalar Style.plain (codes "d")) ∷ at 14 4 0 Tok.block_end ∷ at 14 4 0 Tok.block_end ∷ at 14 4 0 Tok.stream_end ∷ [])
  -- a TAB in the indentation of a block collection
  tab_indentation : scan 12 (codes "a:\n  b: c\n\td: e") ≡ fails problem.PlainTab 8 2 5
  -- a `%` that begins no directive
  percent : scan 8 (codes "a: %b") ≡ fails problem.UnexpectedPercent 3 1 3
  -- a reserved indicator
  at_sign : scan 4 (codes "@a") ≡ fails problem.UnexpectedAt 0 1 0
  -- another reserved indicator
  backtick : scan 4 (codes "`a") ≡ fails problem.UnexpectedBacktick 0 1 0
  -- a comment that touches a token
  comment : scan 4 (codes "[a]#b") ≡ fails problem.CommentNotSeparated 3 1 3
  -- a TAB after a `?`
  tab_after_key : scan 4 (codes "?\ta") ≡ fails problem.WhitespaceExpected 1 1 1
  -- a `?` after a `:`
  key_in_value : scan 8 (codes "a: ? b") ≡ fails problem.KeyNotAllowed 3 1 3
  -- a dash after a `:`
  entry_in_value : scan 8 (codes "a: - b") ≡ fails problem.BlockEntryNotAllowed 3 1 3
  -- a quoted scalar that is not closed
  open_quote : scan 4 (codes "\"abc") ≡ fails problem.QuotedEnd 0 1 0
  -- content after a quoted scalar
  after_quote : scan 4 (codes "\"foo\" l") ≡ fails problem.ContentAfterQuoted 6 1 6
  -- content after a document's end
  after_end : scan 6 (codes "--- a\n... b") ≡ fails problem.ContentAfterDocumentEnd 10 2 4
  -- flow content left of its block collection
  flow_left : scan 13 (codes "a:\n  b: [\nc]") ≡ fails problem.InvalidIndentation 10 3 0

rows : Rows
unfolding scan_on_literals
rows = search
