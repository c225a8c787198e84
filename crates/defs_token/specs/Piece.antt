-- Which piece of text belongs to which token, and where it may stand.
-- YAML 1.2, sections 6.8 (directives), 6.9 (properties), 7 (flow styles), 8 (block styles) and 9.1 (documents).
use Rattle.std.specs.Prelude.{◌≡◌, ℕ, ◌⊎◌, List, [], ◌∷◌, ◌++◌, Bool, true, false, ◌&&◌, ◌||◌, ◌==◌, Option, Some, None, codes}
use Rattle.defs_text.specs.Classes.{space, single_quote, double_quote, is_break, is_anchor_name, is_at_gap}
use Rattle.defs_text.specs.FlowScalar.{begins_with, plain_value, single_quoted_value, double_quoted_value}
use Rattle.defs_text.specs.BlockScalar.{BlockStyle}
use Rattle.defs_text.specs.Tags.{all_of, written_tag}
use Rattle.defs_text.specs.Directives.{Directive, version, tag_declaration, reserved, directive_of}
use Rattle.defs_text.specs.Position.{Position}
use Rattle.defs_token.specs.Token.{Tok, stream_start, stream_end, version_directive, tag_directive, document_start, document_end, block_sequence_start, block_mapping_start, block_end, flow_sequence_start, flow_sequence_end, flow_mapping_start, flow_mapping_end, block_entry, flow_entry, key, value, alias, anchor, tag, scalar, plain, single_quoted, double_quoted, literal, folded}
use Rattle.defs_text.specs.Breaks.{is_at_line_end, has_no_break}
use Rattle.defs_token.specs.Separation.{past_separation}
use Rattle.defs_token.specs.Plain.{begins_flow, is_value_indicator, begins_plain, is_whole_plain}
use Rattle.defs_token.specs.BlockPiece.{block_read, block_position}
use Rattle.defs_token.specs.Account.{Account, is_in_flow, has_open_block, is_closed, collection_column, has_room, has_open_pair, takes_pair, is_adjacent}

-- ---- conditions

-- the fact that a test holds
abbrev pub Holds : Bool → Type 0
Holds b = b ≡ true

-- no flow collection is open
abbrev pub IsOutsideFlow : Account → Type 0
IsOutsideFlow a = is_in_flow a ≡ false

-- a piece stands in column 0
abbrev pub IsInColumn0 : Account → Type 0
IsInColumn0 a = a.position.col ≡ 0

-- no single-pair mapping is open in the innermost flow level
abbrev pub HasNoPair : Account → Type 0
HasNoPair a = has_open_pair a ≡ false

-- ---- tokens without a piece

-- whether a token begins a node, as far as one is known
abbrev pub begins_node : Option Tok → Bool
begins_node None = true
begins_node (Some (alias n)) = true
begins_node (Some (anchor n)) = true
begins_node (Some (tag h s)) = true
begins_node (Some (scalar s t)) = true
begins_node (Some flow_sequence_start) = true
begins_node (Some flow_mapping_start) = true
begins_node _ = false

-- whether a token begins a pair, as far as one is known: a key, or a value whose key is empty
abbrev pub begins_pair : Option Tok → Bool
begins_pair None = true
begins_pair (Some key) = true
begins_pair (Some value) = true
begins_pair _ = false

-- whether a token ends an entry of a flow collection, as far as one is known: a comma or a closing bracket
abbrev pub ends_entry : Option Tok → Bool
ends_entry None = true
ends_entry (Some flow_entry) = true
ends_entry (Some flow_sequence_end) = true
ends_entry (Some flow_mapping_end) = true
ends_entry _ = false

-- A block collection's start has no piece, and stands outside flow.
abbrev pub IsBlockStart : Account → (piece : List ℕ) → Type 0
IsBlockStart a piece = (piece ≡ []) × IsOutsideFlow a

-- A block collection's end closes the innermost block collection that is open.
abbrev pub IsBlockEnd : Account → (piece : List ℕ) → Type 0
IsBlockEnd a piece = (piece ≡ []) × IsOutsideFlow a × Holds (has_open_block a)

-- whether a text begins with a space or a break
abbrev pub begins_with_space_or_break : List ℕ → Bool
begins_with_space_or_break [] = false
begins_with_space_or_break (c ∷ r) = (c == space) || is_break c

-- whether a text begins with the indicator of a key: `?` before a space or a break
abbrev pub begins_with_key_indicator : List ℕ → Bool
begins_with_key_indicator [] = false
begins_with_key_indicator (c ∷ r) = (c == 63) && begins_with_space_or_break r

-- The key before a implicit key has no piece; a node follows it.
abbrev pub IsImplicitKey : (piece : List ℕ) → (following : Option Tok) → Type 0
IsImplicitKey piece following = (piece ≡ []) × Holds (begins_node following)

-- The start of a single-pair mapping has no piece; it stands directly in a flow sequence in which no such pair is open, before the key or the value that begins the pair. A pair that begins with `?` has no start.
abbrev pub IsPairStart : Account → (piece next : List ℕ) → (following : Option Tok) → Type 0
IsPairStart a piece next following = (piece ≡ []) × Holds (takes_pair a) × Holds (begins_pair following) × (begins_with_key_indicator (past_separation false next) ≡ false)

-- The end of such a pair has no piece; it stands directly before the comma or closing bracket of its own level.
abbrev pub IsPairEnd : Account → (piece : List ℕ) → (following : Option Tok) → Type 0
IsPairEnd a piece following = (piece ≡ []) × Holds (has_open_pair a) × Holds (ends_entry following)

-- ---- indicators

-- `?` before a space or a break
abbrev pub IsKeyIndicator : (piece next : List ℕ) → Type 0
IsKeyIndicator piece next = (piece ≡ codes "?") × Holds (begins_with_space_or_break next)

-- `:` before a blank, a break or the end; in flow also before a flow indicator, or next to a quoted scalar or flow collection
abbrev pub IsValueIndicator : Account → (piece next : List ℕ) → Type 0
IsValueIndicator a piece next = (piece ≡ codes ":") × Holds (is_value_indicator (is_in_flow a) (is_adjacent a.before) next)

-- `-` before a blank, a break or the end, outside flow
abbrev pub IsBlockEntry : Account → (piece next : List ℕ) → Type 0
IsBlockEntry a piece next = (piece ≡ codes "-") × Holds (is_at_gap next) × IsOutsideFlow a

-- an opening bracket; at most 255 flow collections are open at once
abbrev pub IsOpening : Account → (piece bracket : List ℕ) → Type 0
IsOpening a piece bracket = (piece ≡ bracket) × Holds (has_room a)

-- a closing bracket or a comma: a single-pair mapping that was open in its level has ended
abbrev pub IsEntryEnd : Account → (piece indicator : List ℕ) → Type 0
IsEntryEnd a piece indicator = (piece ≡ indicator) × HasNoPair a

-- ---- documents

-- `---` or `...` in column 0 before a blank, a break or the end; outside flow no block collection is open
abbrev pub IsDocumentMarker : Account → (piece next marker : List ℕ) → Type 0
IsDocumentMarker a piece next marker = (piece ≡ marker) × IsInColumn0 a × Holds (is_at_gap next) × Holds (is_closed a)

-- one line that is this directive, from column 0; outside flow no block collection is open
abbrev pub IsDirective : Account → (piece next : List ℕ) → Directive → Type 0
IsDirective a piece next d = (directive_of piece ≡ Some d) × Holds (has_no_break piece) × IsInColumn0 a × Holds (is_at_line_end next) × Holds (is_closed a)

-- a declaration of a handle and its prefix, or a directive of another name, whose two texts are empty
abbrev pub IsTagLine : Account → (piece next handle prefix : List ℕ) → Type 0
IsTagLine a piece next handle prefix = IsDirective a piece next (tag_declaration handle prefix) ⊎ ((handle ≡ []) × (prefix ≡ []) × IsDirective a piece next reserved)

-- ---- properties and aliases

-- whether a text goes on with a character of an anchor's name
abbrev pub goes_on_with_name : List ℕ → Bool
goes_on_with_name [] = false
goes_on_with_name (c ∷ r) = is_anchor_name c

-- whether a text is the name of an anchor
abbrev pub is_name : List ℕ → Bool
is_name [] = false
is_name (c ∷ r) = all_of is_anchor_name (c ∷ r)

-- an indicator and a name, which ends there
abbrev pub IsNamed : (indicator : ℕ) → (piece next name : List ℕ) → Type 0
IsNamed indicator piece next name = (piece ≡ indicator ∷ name) × Holds (is_name name) × (goes_on_with_name next ≡ false)

-- a tag, which ends before a blank, a break or the end, in flow also before a flow indicator
abbrev pub IsTag : Account → (piece next handle suffix : List ℕ) → Type 0
IsTag a piece next handle suffix = (written_tag piece ≡ Some (record { handle = handle; suffix = suffix })) × Holds (is_at_gap next || (is_in_flow a && begins_flow next))

-- ---- scalars

-- A plain scalar: it begins where no other token does, goes on to its end, and has this value.
abbrev pub IsPlain : Account → (piece next text : List ℕ) → Type 0
IsPlain a piece next text =
    Holds (begins_plain (is_in_flow a) (is_adjacent a.before) a.position.col (piece ++ next)) ×
    Holds (is_whole_plain (is_in_flow a) (collection_column a) piece next) ×
    (plain_value piece ≡ Some text)

-- a scalar in single quotes; no further quote follows, which would make the last one a quote inside it
abbrev pub IsSingleQuoted : (piece next text : List ℕ) → Type 0
IsSingleQuoted piece next text = (body : List ℕ) × (piece ≡ single_quote ∷ (body ++ (single_quote ∷ []))) × (single_quoted_value body ≡ Some text) × (begins_with single_quote next ≡ false)

-- a scalar in double quotes
abbrev pub IsDoubleQuoted : (piece next text : List ℕ) → Type 0
IsDoubleQuoted piece next text = (body : List ℕ) × (piece ≡ double_quote ∷ (body ++ (double_quote ∷ []))) × (double_quoted_value body ≡ Some text)

-- A block scalar outside flow, of this style and value; its token's position is where its content begins.
abbrev pub IsBlockScalar : Account → (piece next : List ℕ) → BlockStyle → (text : List ℕ) → (position : Position) → Type 0
IsBlockScalar a piece next style text position =
    IsOutsideFlow a ×
    ((column : ℕ) × (block_read (collection_column a) piece next ≡ Some (record { style = style; column = column; text = text })) × (position ≡ block_position column a.position piece next))

-- ---- tokens

-- Whether a piece of text belongs to a token. The arguments are what is open before it, the piece, the text after it, the token after it if one is known, and the token's position. The stream's own two tokens stand only at its ends.
abbrev pub IsPiece : Account → (piece next : List ℕ) → (following : Option Tok) → (position : Position) → Tok → Type 0
IsPiece a piece next following position stream_start = ⊥
IsPiece a piece next following position stream_end = ⊥
IsPiece a piece next following position (version_directive major minor) = IsDirective a piece next (version major minor) × (position ≡ a.position)
IsPiece a piece next following position (tag_directive handle prefix) = IsTagLine a piece next handle prefix × (position ≡ a.position)
IsPiece a piece next following position document_start = IsDocumentMarker a piece next (codes "---") × (position ≡ a.position)
IsPiece a piece next following position document_end = IsDocumentMarker a piece next (codes "...") × (position ≡ a.position)
IsPiece a piece next following position block_sequence_start = IsBlockStart a piece
IsPiece a piece next following position block_mapping_start = IsBlockStart a piece
IsPiece a piece next following position block_end = IsBlockEnd a piece
IsPiece a piece next following position flow_sequence_start = IsOpening a piece (codes "[") × (position ≡ a.position)
IsPiece a piece next following position flow_sequence_end = IsEntryEnd a piece (codes "]") × (position ≡ a.position)
IsPiece a piece next following position flow_mapping_start = (IsOpening a piece (codes "{") × (position ≡ a.position)) ⊎ IsPairStart a piece next following
IsPiece a piece next following position flow_mapping_end = (IsEntryEnd a piece (codes "}") × (position ≡ a.position)) ⊎ IsPairEnd a piece following
IsPiece a piece next following position block_entry = IsBlockEntry a piece next
IsPiece a piece next following position flow_entry = IsEntryEnd a piece (codes ",") × (position ≡ a.position)
IsPiece a piece next following position key = IsKeyIndicator piece next ⊎ IsImplicitKey piece following
IsPiece a piece next following position value = IsValueIndicator a piece next
IsPiece a piece next following position (alias name) = IsNamed 42 piece next name × (position ≡ a.position)
IsPiece a piece next following position (anchor name) = IsNamed 38 piece next name × (position ≡ a.position)
IsPiece a piece next following position (tag handle suffix) = IsTag a piece next handle suffix × (position ≡ a.position)
IsPiece a piece next following position (scalar plain text) = IsPlain a piece next text × (position ≡ a.position)
IsPiece a piece next following position (scalar single_quoted text) = IsSingleQuoted piece next text × (position ≡ a.position)
IsPiece a piece next following position (scalar double_quoted text) = IsDoubleQuoted piece next text × (position ≡ a.position)
IsPiece a piece next following position (scalar literal text) = IsBlockScalar a piece next BlockStyle.literal text position
IsPiece a piece next following position (scalar folded text) = IsBlockScalar a piece next BlockStyle.folded text position
