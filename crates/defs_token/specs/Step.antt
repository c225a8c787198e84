-- A row of steps: a text cut into separations and pieces, and for each piece what it shows and whether an implicit key begins with it.
-- Nothing else is chosen. Starts and ends of collections, and the positions of all tokens, follow from the steps.
use Rattle.std.specs.Prelude.{ℕ, List, [], ◌∷◌, ◌++◌, Bool, true, false, ◌==◌, not, if◌then◌else◌}
use Rattle.defs_text.specs.Classes.{is_blank, is_break}
use Rattle.defs_text.specs.Tags.{leading, after}
use Rattle.defs_token.specs.Token.{Tok, stream_start, stream_end, version_directive, tag_directive, document_start, document_end, block_sequence_start, block_mapping_start, block_end, flow_sequence_start, flow_sequence_end, flow_mapping_start, flow_mapping_end, block_entry, flow_entry, key, value, alias, anchor, tag, scalar, plain, single_quoted, double_quoted, literal, folded}
use Rattle.defs_text.specs.Breaks.{has_no_break}

-- A step: the separation before a piece, the piece, the token that the piece shows (`key` for `?`, `value` for `:`, a bracket's for a bracket), and whether an implicit key begins with it.
pub record Step : Type 0 where
  pub separation : List ℕ
  pub piece : List ℕ
  pub shown : Tok
  pub key : Bool

-- A row: its steps, and the separation after the last piece.
pub record Row : Type 0 where
  pub steps : List Step
  pub last : List ℕ

-- the text of steps and a last separation
abbrev pub spelled : List Step → (last : List ℕ) → List ℕ
spelled [] last = last
spelled (w ∷ ws) last = w.separation ++ (w.piece ++ spelled ws last)

-- ---- what a piece does, as far as keys and collections ask

-- What a piece is: a part of a node (a property, an alias, a flow scalar, an opening bracket), a block scalar, an indicator, or a line for the document (a marker or a directive).
pub data Act : Type 0 where
  gives_node : Act
  gives_block_scalar : Act
  gives_dash : Act
  gives_question : Act
  gives_colon : Act
  gives_comma : Act
  gives_closing : Act
  gives_marker : Act
  gives_nothing : Act

-- what the piece of a token is; the stream's tokens, and those of block collections, have none
abbrev pub act_of : Tok → Act
act_of (version_directive major minor) = gives_marker
act_of (tag_directive handle prefix) = gives_marker
act_of document_start = gives_marker
act_of document_end = gives_marker
act_of flow_sequence_start = gives_node
act_of flow_mapping_start = gives_node
act_of flow_sequence_end = gives_closing
act_of flow_mapping_end = gives_closing
act_of block_entry = gives_dash
act_of flow_entry = gives_comma
act_of key = gives_question
act_of value = gives_colon
act_of (alias name) = gives_node
act_of (anchor name) = gives_node
act_of (tag handle suffix) = gives_node
act_of (scalar plain text) = gives_node
act_of (scalar single_quoted text) = gives_node
act_of (scalar double_quoted text) = gives_node
act_of (scalar literal text) = gives_block_scalar
act_of (scalar folded text) = gives_block_scalar
act_of stream_start = gives_nothing
act_of stream_end = gives_nothing
act_of block_sequence_start = gives_nothing
act_of block_mapping_start = gives_nothing
act_of block_end = gives_nothing

-- whether a piece stands for the document: a marker or a directive
abbrev pub is_marker : Act → Bool
is_marker gives_marker = true
is_marker _ = false

-- What the last piece was, as far as a rule asks.
pub data Previous : Type 0 where
  plain_scalar : Previous
  quoted_scalar : Previous
  block_scalar : Previous
  flow_collection : Previous
  directive : Previous
  another : Previous

-- the same by the token that a piece showed
abbrev pub previous_by : Tok → Previous
previous_by (scalar plain text) = plain_scalar
previous_by (scalar single_quoted text) = quoted_scalar
previous_by (scalar double_quoted text) = quoted_scalar
previous_by (scalar literal text) = block_scalar
previous_by (scalar folded text) = block_scalar
previous_by flow_sequence_end = flow_collection
previous_by flow_mapping_end = flow_collection
previous_by (version_directive major minor) = directive
previous_by (tag_directive handle prefix) = directive
previous_by _ = another

-- ---- parts of a text

-- whether a text has a break
abbrev pub has_break : List ℕ → Bool
has_break text = not (has_no_break text)

-- whether a character stands on a line: it is no break
abbrev pub is_on_line : ℕ → Bool
is_on_line c = not (is_break c)

-- the comment with which a text begins, if it begins with one
abbrev pub comment_of : List ℕ → List ℕ
comment_of [] = []
comment_of (c ∷ r) = (if c == 35 then leading is_on_line (c ∷ r) else [])

-- the text after it
abbrev pub past_comment : List ℕ → List ℕ
past_comment [] = []
past_comment (c ∷ r) = (if c == 35 then after is_on_line (c ∷ r) else c ∷ r)

-- the blanks with which a text begins, and a comment after them
abbrev pub blanks_and_comment : List ℕ → List ℕ
blanks_and_comment text = leading is_blank text ++ comment_of (after is_blank text)

-- the text after these
abbrev pub past_blanks_and_comment : List ℕ → List ℕ
past_blanks_and_comment text = past_comment (after is_blank text)
