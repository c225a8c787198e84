-- What the model of a block scalar's scan is told and what it answers, in the definitions' words.
use Rattle.std.specs.Prelude.{◌≡◌, ℕ, zero, suc, List, [], ◌∷◌, Bool, true, false, ◌&&◌, not, ◌==◌, nat_lt, nat_le, if◌then◌else◌, Option, Some, None, Result}
use Rattle.defs_text.specs.Position.{Position, position_after}
use Rattle.defs_text.specs.Classes.{space, tab, is_at_end}
use Rattle.defs_text.specs.Breaks.{split}
use Rattle.defs_text.specs.FlowScalar.{begins_with}
use Rattle.defs_text.specs.BlockScalar.{BlockStyle, literal, folded}
use Rattle.defs_token.specs.BlockPiece.{BlockRead, first_content, past_spaces, block_position}
use Rattle.yaml_tokens.specs.declared.problem.Fault.{Fault}
use Rattle.yaml_tokens.specs.declared.problem.Fault.TheVariants.{At}
use Rattle.yaml_tokens.specs.declared.problem.Problem.TheVariants as problem
use Rattle.model_scanner.specs.Machine.{Read}
use Rattle.model_scanner.specs.BlockScalar.{Block}
use Rattle.proof_lexers.specs.Ends.{EndsAs}

-- a header's digit; the scanner keeps 0 where there is none
abbrev pub digit_by : (increment : ℕ) → Option ℕ
digit_by zero = None
digit_by (suc n) = Some (suc n)

-- a text from its first character on that is no space
abbrev pub without_spaces : List ℕ → List ℕ
without_spaces [] = []
without_spaces (c ∷ r) = (if c == space then without_spaces r else c ∷ r)

-- whether a block scalar is written with `|`
abbrev pub is_literal_style : BlockStyle → Bool
is_literal_style literal = true
is_literal_style folded = false

-- a character other than NUL, with which a text ends
abbrev pub is_some : ℕ → Bool
is_some c = not (c == 0)

-- the position of the first character that is no space after a piece
abbrev pub further_position : Position → (piece next : List ℕ) → Position
further_position p piece next = past_spaces (position_after p piece next) next

-- a block scalar read from its piece: the spaces after the piece are passed too
abbrev pub read_block : Position → BlockRead → (piece next : List ℕ) → Read Block
read_block p b piece next = record {
  rest = without_spaces next;
  position = further_position p piece next;
  value = record { position = block_position b.column p piece next; text = b.text };
}

-- whether there is no position
abbrev pub is_none : Option Position → Bool
is_none None = true
is_none (Some q) = false

-- whether a list has one member
abbrev pub is_single : {A : Type 0} → List A → Bool
is_single [] = false
is_single (x ∷ []) = true
is_single (x ∷ y ∷ xs) = false

-- whether a TAB stands after a piece that is a header alone
abbrev pub is_tabbed : (piece next : List ℕ) → Bool
is_tabbed piece next = is_single (split piece).complete && begins_with tab next

-- Whether the text after a scalar without content is indented as content of the innermost block collection, but not as deep as the empty lines before it.
abbrev pub is_shallow : (indent : ℕ) → Position → BlockRead → (piece next : List ℕ) → Bool
is_shallow indent p b piece next =
    ((not (is_at_end next) && is_none (first_content b.column true p piece)) && nat_le indent (further_position p piece next).col) && nat_lt (further_position p piece next).col b.column

-- What is read of a block scalar's piece: all of it, where the text after it may stand there.
pub data IsPieceRead (indent : ℕ) (p : Position) (b : BlockRead) (piece next : List ℕ) (r : Read Block) : Type 0 where
  read : is_tabbed piece next ≡ false → is_shallow indent p b piece next ≡ false → r ≡ read_block p b piece next → IsPieceRead indent p b piece next r

-- Why the text after a block scalar's piece is refused: a TAB, or text that is neither content nor outside the block collection.
pub data IsPieceRefusal (indent : ℕ) (p : Position) (b : BlockRead) (piece next : List ℕ) : Fault → Type 0 where
  shallow : is_tabbed piece next ≡ false → is_shallow indent p b piece next ≡ true → IsPieceRefusal indent p b piece next (At problem.BlockScalarIndentation (further_position p piece next))
  tabbed : is_tabbed piece next ≡ true → IsPieceRefusal indent p b piece next (At problem.BlockScalarTab p)

-- The scan at a position read this block scalar from its piece, or refused what stands after it.
abbrev pub IsRead : (indent : ℕ) (p : Position) (b : BlockRead) (piece next : List ℕ) → Result (Read Block) Fault → Type 0
IsRead indent p b piece next x = EndsAs (IsPieceRead indent p b piece next) (IsPieceRefusal indent p b piece next) x
