-- A block scalar's piece of text: its header, its lines, and where its content begins. YAML 1.2, section 8.1.
use Rattle.std.specs.Prelude.{ℕ, List, [], ◌∷◌, Bool, true, false, ◌&&◌, ◌||◌, ◌==◌, not, nat_lt, if◌then◌else◌, Option, Some, None}
use Rattle.defs_text.specs.Classes.{space, is_break, is_at_end}
use Rattle.defs_text.specs.Breaks.{Split, split, ends_line}
use Rattle.defs_text.specs.BlockScalar.{BlockStyle, Header, header_of, Body, body, input_ends, further_text, unbroken, content_column, block_value, is_further_text}
use Rattle.defs_text.specs.Position.{Position, position_past, position_after}

-- a block scalar as read: its style, its content column, and its value
pub record BlockRead : Type 0 where
  pub style : BlockStyle
  pub column : ℕ
  pub text : List ℕ

-- the content column of a body; a header alone has none, and its text is empty
abbrev pub column_of : Header → (collection : Option ℕ) → Body → ℕ
column_of h collection input_ends = 0
column_of h collection (body lines ending) = content_column h collection lines ending

-- what is read of a scalar that has a value
abbrev pub with_value : Header → (column : ℕ) → Option (List ℕ) → Option BlockRead
with_value h column None = None
with_value h column (Some text) = Some (record { style = h.style; column = column; text = text })

-- whether a block scalar's lines end before this text: at its end, or before further text
abbrev pub is_past : (column : ℕ) → (next : List ℕ) → Bool
is_past column next = is_at_end next || is_further_text column next

-- a header and its body, if its lines end before the text after them
abbrev pub read_body : Option Header → (collection : Option ℕ) → Body → (next : List ℕ) → Option BlockRead
read_body None collection b next = None
read_body (Some h) collection b next = (if is_past (column_of h collection b) next then with_value h (column_of h collection b) (block_value h collection b) else None)

-- a piece by its lines: the first is the header's; before the end of the text the last may lack its break, before further text none does
abbrev pub read_lines : (collection : Option ℕ) → List (List ℕ) → (last next : List ℕ) → (at_end : Bool) → Option BlockRead
read_lines collection [] last next true = read_body (header_of last) collection input_ends next
read_lines collection (h ∷ ls) last next true = read_body (header_of h) collection (body ls (unbroken last)) next
read_lines collection (h ∷ ls) [] next false = read_body (header_of h) collection (body ls further_text) next
read_lines collection _ _ next false = None

-- the block scalar that a piece's lines are
abbrev pub read_split : (collection : Option ℕ) → Split → (next : List ℕ) → Option BlockRead
read_split collection s next = read_lines collection (s.complete) (s.last) next (is_at_end next)

-- The block scalar that a piece of text is, if the piece is a whole block scalar before the text after it.
abbrev pub block_read : (collection : Option ℕ) → (piece next : List ℕ) → Option BlockRead
block_read collection piece next = read_split collection (split piece) next

-- ---- where the content begins

-- The position of the content column in the first content line, if there is one; the header's line is passed over.
abbrev pub first_content : (column : ℕ) → (in_header : Bool) → Position → List ℕ → Option Position
first_content column in_header p [] = None
first_content column true p (c ∷ r) = first_content column (not (ends_line c r)) (position_past p c r) r
first_content column false p (c ∷ r) = (if is_break c || ((c == space) && nat_lt p.col column) then first_content column false (position_past p c r) r else Some p)

-- the position of the first character that is no space
abbrev pub past_spaces : Position → List ℕ → Position
past_spaces p [] = p
past_spaces p (c ∷ r) = (if c == space then past_spaces (position_past p c r) r else p)

-- the first position, where there is one
abbrev pub position_or : Option Position → Position → Position
position_or (Some p) other = p
position_or None other = other

-- The position of a block scalar's token: where its content begins. Without content it is the position of the further text, or of the header if the text ends.
abbrev pub block_position : (column : ℕ) → Position → (piece next : List ℕ) → Position
block_position column p piece next = position_or (first_content column true p piece) (if is_at_end next then p else past_spaces (position_after p piece next) next)
