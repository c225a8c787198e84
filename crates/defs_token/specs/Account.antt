-- What is open after the tokens so far: block collections, flow collections and flow pairs.
-- It is computed from tokens and their pieces of text alone. YAML 1.2, sections 7.4 (flow collections), 8.2 (block collections).
use Rattle.std.specs.Prelude.{ℕ, List, [], ◌∷◌, Bool, true, false, ◌&&◌, not, nat_lt, if◌then◌else◌, length, drop, Option, Some, None}
use Rattle.defs_text.specs.Text.{is_empty}
use Rattle.defs_text.specs.Position.{Position, first_position, position_after}
use Rattle.defs_token.specs.Token.{Tok, block_sequence_start, block_mapping_start, block_end, flow_sequence_start, flow_sequence_end, flow_mapping_start, flow_mapping_end, scalar, single_quoted, double_quoted}
use Rattle.defs_token.specs.Separation.{is_blanks}

-- an open flow collection
pub data FlowKind : Type 0 where
  sequence : FlowKind
  mapping : FlowKind

-- A flow level: its collection, and whether a single-pair mapping is open in it.
pub record Level : Type 0 where
  pub kind : FlowKind
  pub pair : Bool

-- what stands before a position, as far as it matters for a colon there: a quoted scalar, a flow collection with nothing but blanks after it, or anything else
pub data Before : Type 0 where
  quoted : Before
  collection : Before
  other : Before

-- The account at a position of the text: the position; the open block collections, each with its column once its first piece has come; the open flow levels; and what stands before. Both lists have the innermost first.
pub record Account : Type 0 where
  pub position : Position
  pub blocks : List (Option ℕ)
  pub levels : List Level
  pub before : Before

-- the account where a text begins
abbrev pub first_account : Account
first_account = record { position = first_position; blocks = []; levels = []; before = other }

-- ---- what an account says

-- whether a flow collection is open
abbrev pub is_in_flow : Account → Bool
is_in_flow a = not (is_empty a.levels)

-- whether a block collection is open
abbrev pub has_open_block : Account → Bool
has_open_block a = not (is_empty a.blocks)

-- whether outside flow no block collection is open
abbrev pub is_closed : Account → Bool
is_closed a = (if is_in_flow a then true else not (has_open_block a))

-- the column of the innermost of block collections that has one
abbrev pub innermost_column : List (Option ℕ) → Option ℕ
innermost_column [] = None
innermost_column (None ∷ bs) = innermost_column bs
innermost_column (Some n ∷ bs) = Some n

-- the column of the innermost open block collection
abbrev pub collection_column : Account → Option ℕ
collection_column a = innermost_column a.blocks

-- whether another flow collection may be opened: at most 255 are open at once
abbrev pub has_room : Account → Bool
has_room a = nat_lt (length a.levels) 255

-- whether the innermost of flow levels has a single-pair mapping open
abbrev pub is_pair_at : List Level → Bool
is_pair_at [] = false
is_pair_at (l ∷ ls) = l.pair

-- whether a single-pair mapping is open in the innermost flow level
abbrev pub has_open_pair : Account → Bool
has_open_pair a = is_pair_at a.levels

-- whether a flow collection is a sequence
abbrev pub is_sequence : FlowKind → Bool
is_sequence sequence = true
is_sequence mapping = false

-- whether the innermost of flow levels is a sequence without such a pair
abbrev pub takes_pair_at : List Level → Bool
takes_pair_at [] = false
takes_pair_at (l ∷ ls) = is_sequence l.kind && not l.pair

-- whether a single-pair mapping may begin: the innermost flow level is a sequence in which none is open
abbrev pub takes_pair : Account → Bool
takes_pair a = takes_pair_at a.levels

-- whether a colon may stand next to what stands before
abbrev pub is_adjacent : Before → Bool
is_adjacent quoted = true
is_adjacent collection = true
is_adjacent other = false

-- ---- the account after a separation

-- a colon may stand after a flow collection and blanks, and after a quoted scalar and any separation
abbrev pub before_past : Before → (separation : List ℕ) → Before
before_past quoted f = quoted
before_past collection f = (if is_blanks f then collection else other)
before_past other f = other

-- the account after a separation; the text after it
abbrev pub account_past_separation : Account → (separation next : List ℕ) → Account
account_past_separation a f next = record a { position = position_after a.position f next; before = before_past a.before f }

-- ---- the account after a token

-- block collections, where those without a column get this one
abbrev pub settled : (column : ℕ) → List (Option ℕ) → List (Option ℕ)
settled column [] = []
settled column (None ∷ bs) = Some column ∷ settled column bs
settled column (Some n ∷ bs) = Some n ∷ settled column bs

-- the open block collections at a token's piece, which is the first piece of each collection that has no column yet
abbrev pub blocks_at : List (Option ℕ) → (column : ℕ) → (piece : List ℕ) → List (Option ℕ)
blocks_at bs column [] = bs
blocks_at bs column (c ∷ r) = settled column bs

-- the account at a token's piece
abbrev pub account_at_piece : Account → (piece : List ℕ) → Account
account_at_piece a piece = record a { blocks = blocks_at a.blocks a.position.col piece }

-- the block collections open after a token
abbrev pub blocks_past : List (Option ℕ) → Tok → List (Option ℕ)
blocks_past bs block_sequence_start = None ∷ bs
blocks_past bs block_mapping_start = None ∷ bs
blocks_past bs block_end = drop 1 bs
blocks_past bs _ = bs

-- the innermost level with its pair open or not
abbrev pub with_pair : Bool → List Level → List Level
with_pair b [] = []
with_pair b (l ∷ ls) = record l { pair = b } ∷ ls

-- The flow levels after a token: a mapping's start or end without a piece is that of a single-pair mapping.
abbrev pub levels_past : List Level → (piece : List ℕ) → Tok → List Level
levels_past ls piece flow_sequence_start = record { kind = sequence; pair = false } ∷ ls
levels_past ls piece flow_sequence_end = drop 1 ls
levels_past ls [] flow_mapping_start = with_pair true ls
levels_past ls (c ∷ r) flow_mapping_start = record { kind = mapping; pair = false } ∷ ls
levels_past ls [] flow_mapping_end = with_pair false ls
levels_past ls (c ∷ r) flow_mapping_end = drop 1 ls
levels_past ls piece _ = ls

-- what stands before the text after a piece of a token
abbrev pub before_by : Tok → Before
before_by (scalar single_quoted t) = quoted
before_by (scalar double_quoted t) = quoted
before_by flow_sequence_end = collection
before_by flow_mapping_end = collection
before_by _ = other

-- what stands before the text after a token; without a piece what stood there before
abbrev pub before_past_token : Before → (piece : List ℕ) → Tok → Before
before_past_token b [] t = b
before_past_token b (c ∷ r) t = before_by t

-- the account after a token, from that at its piece; the text after it
abbrev pub account_past_token : Account → (piece next : List ℕ) → Tok → Account
account_past_token a piece next t = record {
  position = position_after a.position piece next;
  blocks = blocks_past a.blocks t;
  levels = levels_past a.levels piece t;
  before = before_past_token a.before piece t;
}
