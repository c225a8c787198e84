-- How the scan of a block scalar ends, told by the text after its `|` or `>`.
use Rattle.std.specs.Prelude.{◌≡◌, ℕ, List, ◌∷◌, ◌++◌, true, Some}
use Rattle.defs_text.specs.Position.{Position}
use Rattle.defs_text.specs.BlockScalar.{BlockStyle}
use Rattle.defs_token.specs.BlockPiece.{BlockRead, block_read}
use Rattle.yaml_tokens.specs.declared.problem.Fault.{Fault}
use Rattle.model_scanner.specs.Machine.{Read}
use Rattle.model_scanner.specs.BlockScalar.{Block}
use Rattle.proof_lexers.specs.HeaderEnds.{indicator_of, is_in_line, ends_line, IsHeaderRefusal}
use Rattle.proof_lexers.specs.BlockScan.{IsPieceRead, IsPieceRefusal}
use Rattle.proof_lexers.specs.PlainEnds.{collection_of}

-- A text begins, with its indicator, with a piece that is a block scalar.
pub record IsBlockPiece (style : BlockStyle) (indent : ℕ) (text piece next : List ℕ) (b : BlockRead) : Type 0 where
  pub is_text : indicator_of style ∷ text ≡ piece ++ next
  pub is_read : block_read (collection_of indent) piece next ≡ Some b
  pub is_style : b.style ≡ style

-- What is read of a text: the block scalar of a piece that it begins with.
pub data IsBlockRead (style : BlockStyle) (indent : ℕ) (p : Position) (text : List ℕ) (r : Read Block) : Type 0 where
  whole_block : (piece next : List ℕ) (b : BlockRead) → IsBlockPiece style indent text piece next b → IsPieceRead indent p b piece next r → IsBlockRead style indent p text r

-- Why a text is refused: for what stands after such a piece, or for its header.
pub data IsBlockRefusal (style : BlockStyle) (indent : ℕ) (p : Position) (text : List ℕ) (f : Fault) : Type 0 where
  after_piece : (piece next : List ℕ) (b : BlockRead) → IsBlockPiece style indent text piece next b → IsPieceRefusal indent p b piece next f → IsBlockRefusal style indent p text f
  bad_header : (line after : List ℕ) → text ≡ line ++ after → is_in_line line ≡ true → ends_line after ≡ true → IsHeaderRefusal p style line after f → IsBlockRefusal style indent p text f
