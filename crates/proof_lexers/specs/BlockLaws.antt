-- Laws of the scanner's model and block scalars: each is the contract of the function of `src/laws.rt` that its comment names.
use Rattle.std.specs.Prelude.{◌≡◌, ℕ, List, ◌∷◌, ◌++◌, true, Some}
use Rattle.std.specs.List.{list_all}
use Rattle.defs_text.specs.Position.{Position}
use Rattle.defs_text.specs.Breaks.{split}
use Rattle.defs_text.specs.BlockScalar.{BlockStyle, unbroken, all_lines, column_by}
use Rattle.defs_token.specs.BlockPiece.{BlockRead, block_read}
use Rattle.model_scanner.specs.Machine.{past}
use Rattle.model_scanner.specs.BlockScalar.{header, content, block}
use Rattle.proof_lexers.specs.Ends.{EndsAs}
use Rattle.proof_lexers.specs.HeaderEnds.{indicator_of, is_in_line, ends_line, IsHeaderRead, IsHeaderRefusal}
use Rattle.proof_lexers.specs.BlockEnds.{IsBlockRead, IsBlockRefusal}
use Rattle.proof_lexers.specs.BlockScan.{digit_by, is_literal_style, is_some, IsRead}
use Rattle.proof_lexers.specs.PlainEnds.{collection_of}

-- `headers_end_as_their_line_says`; `line` is the rest of the header's line, and `after` the text from the line's end on
abbrev pub HeadersEndAsTheirLineSays : Type 0
HeadersEndAsTheirLineSays =
    (style : BlockStyle) (line after : List ℕ) (p : Position) → is_in_line line ≡ true → ends_line after ≡ true
    → EndsAs (IsHeaderRead p style line after) (IsHeaderRefusal p style line after) (header p (line ++ after) (past p))

-- `first_lines_give_the_column`; `text` is what stands after the header's break
abbrev pub FirstLinesGiveTheColumn : Type 0
FirstLinesGiveTheColumn =
    (indent increment : ℕ) (text : List ℕ) (p : Position) → p.col ≡ 0
    → (content indent increment text p).value.column ≡ column_by (digit_by increment) (collection_of indent) (all_lines (split text).complete (unbroken (split text).last))

-- `block_pieces_are_read`
abbrev pub BlockPiecesAreRead : Type 0
BlockPiecesAreRead =
    (indent : ℕ) (piece next : List ℕ) (p : Position) (b : BlockRead) → list_all is_some next ≡ true → block_read (collection_of indent) piece next ≡ Some b
    → IsRead indent p b piece next (block (is_literal_style b.style) indent (piece ++ next) p)

-- `block_scans_end_as_their_text_says`; `text` is what stands after `|` or `>`
abbrev pub BlockScansEndAsTheirTextSays : Type 0
BlockScansEndAsTheirTextSays =
    (style : BlockStyle) (indent : ℕ) (text : List ℕ) (p : Position) → list_all is_some text ≡ true
    → EndsAs (IsBlockRead style indent p text) (IsBlockRefusal style indent p text) (block (is_literal_style style) indent (indicator_of style ∷ text) p)
