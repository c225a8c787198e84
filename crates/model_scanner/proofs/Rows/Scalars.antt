-- Documents, plain and quoted scalars, and their tokens.
use Rattle.model_scanner.proofs.Common.{[], codes, Ok, scan, Style, Tok, ◌∷◌, ◌≡◌}
use Rattle.model_scanner.proofs.OnLiterals.{scan_on_literals}
use Rattle.model_scanner.proofs.Rows.Words.{at}

record Rows : Type 0 where
  -- a document marker alone
  marker : scan 6 (codes "---") ≡ Ok (at 0 1 0 Tok.stream_start ∷ at 0 1 0 Tok.document_start ∷ at 3 2 0 Tok.stream_end ∷ [])
  -- four dashes are a word
  dashes : scan 6 (codes "----") ≡ Ok (at 0 1 0 Tok.stream_start ∷ at 0 1 0 (Tok.scalar Style.plain (codes "----")) ∷ at 4 2 0 Tok.stream_end ∷ [])
  -- a comment after a marker
  comment : scan 6 (codes "--- #here goes a comment") ≡ Ok (at 0 1 0 Tok.stream_start ∷ at 0 1 0 Tok.document_start ∷ at 24 2 0 Tok.stream_end ∷ [])
  -- quoted scalars in three documents
  documents : scan 10 (codes "\n'a scalar'\n---\n'a scalar'\n---\n'a scalar'\n") ≡ Ok (at 0 1 0 Tok.stream_start ∷ at 1 2 0 (Tok.scalar Style.single_quoted (codes "a scalar")) ∷ at 12 3 0 Tok.document_start ∷ at 16 4 0 (Tok.scalar Style.single_quoted (codes "a scalar")) ∷ at 27 5 0 Tok.document_start ∷ at 31 6 0 (Tok.scalar Style.single_quoted (codes "a scalar")) ∷ at 42 7 0 Tok.stream_end ∷ [])
  -- a doubled single quote
  doubled : scan 6 (codes "'it''s'") ≡ Ok (at 0 1 0 Tok.stream_start ∷ at 0 1 0 (Tok.scalar Style.single_quoted (codes "it's")) ∷ at 7 2 0 Tok.stream_end ∷ [])
  -- codes in hexadecimal digits
  escapes : scan 6 (codes "\"\\x41\\u00e9\\U0001F600\"") ≡ Ok (at 0 1 0 Tok.stream_start ∷ at 0 1 0 (Tok.scalar Style.double_quoted ((65 ∷ 233 ∷ 128512 ∷ []))) ∷ at 22 2 0 Tok.stream_end ∷ [])
  -- lines of a plain scalar
  folded : scan 6 (codes "a\n b\n\n c") ≡ Ok (at 0 1 0 Tok.stream_start ∷ at 0 1 0 (Tok.scalar Style.plain (codes "a b\nc")) ∷ at 8 5 0 Tok.stream_end ∷ [])
  -- columns count characters
  characters : scan 10 ((91 ∷ 34 ∷ 233 ∷ 34 ∷ 44 ∷ 32 ∷ 49 ∷ 93 ∷ [])) ≡ Ok (at 0 1 0 Tok.stream_start ∷ at 0 1 0 Tok.flow_sequence_start ∷ at 1 1 1 (Tok.scalar Style.double_quoted ((233 ∷ []))) ∷ at 4 1 4 Tok.flow_entry ∷ at 6 1 6 (Tok.scalar Style.plain (codes "1")) ∷ at 7 1 7 Tok.flow_sequence_end ∷ at 8 2 0 Tok.stream_end ∷ [])
  -- lines of a quoted scalar, and an escaped break
  quoted_lines : scan 6 (codes "\"a  \n  b\n\n c\\\n   d\"") ≡ Ok (at 0 1 0 Tok.stream_start ∷ at 0 1 0 (Tok.scalar Style.double_quoted (codes "a b\ncd")) ∷ at 19 6 0 Tok.stream_end ∷ [])
  -- a `:` inside a word
  colon_inside : scan 6 (codes "a:,b") ≡ Ok (at 0 1 0 Tok.stream_start ∷ at 0 1 0 (Tok.scalar Style.plain (codes "a:,b")) ∷ at 4 2 0 Tok.stream_end ∷ [])
  -- a `:` that begins a word
  colon_first : scan 6 (codes ":,b") ≡ Ok (at 0 1 0 Tok.stream_start ∷ at 0 1 0 (Tok.scalar Style.plain (codes ":,b")) ∷ at 3 2 0 Tok.stream_end ∷ [])
  -- a `?` that begins a word
  question_first : scan 6 (codes "?a") ≡ Ok (at 0 1 0 Tok.stream_start ∷ at 0 1 0 (Tok.scalar Style.plain (codes "?a")) ∷ at 2 2 0 Tok.stream_end ∷ [])
  -- a comment after a TAB in the indentation
  tab_comment : scan 20 (codes "a:\n  b: c\n\t# x\n  d: e\n") ≡ Ok (at 0 1 0 Tok.stream_start ∷ at 1 1 1 Tok.block_mapping_start ∷ at 0 1 0 Tok.key ∷ at 0 1 0 (Tok.scalar Style.plain (codes "a")) ∷ at 1 1 1 Tok.value ∷ at 6 2 3 Tok.block_mapping_start ∷ at 5 2 2 Tok.key ∷ at 5 2 2 (Tok.scalar Style.plain (codes "b")) ∷ at 6 2 3 Tok.value ∷ at 8 2 5 (Tok.scalar Style.plain (codes "c")) ∷ at 17 4 2 Tok.key ∷ at 17 4 2 (Tok.scalar Style.plain (codes "d")) ∷ at 18 4 3 Tok.value ∷ at 20 4 5 (Tok.scalar Style.plain (codes "e")) ∷ at 22 5 0 Tok.block_end ∷ at 22 5 0 Tok.block_end ∷ at 22 5 0 Tok.stream_end ∷ [])
  -- a document's end, and a second document
  end : scan 8 (codes "a\n...\nb\n") ≡ Ok (at 0 1 0 Tok.stream_start ∷ at 0 1 0 (Tok.scalar Style.plain (codes "a")) ∷ at 2 2 0 Tok.document_end ∷ at 6 3 0 (Tok.scalar Style.plain (codes "b")) ∷ at 8 4 0 Tok.stream_end ∷ [])

rows : Rows
unfolding scan_on_literals
rows = search
