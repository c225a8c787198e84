-- The tokens of a YAML stream, as clauses see them: a position, and what stands there.
use Rattle.std.specs.Prelude.{ℕ, List}
use Rattle.defs_text.specs.Position.{Position}

-- How a scalar is written (YAML 1.2, sections 7.3 and 8.1).
pub data Style : Type 0 where
  plain : Style
  single_quoted : Style
  double_quoted : Style
  literal : Style
  folded : Style

pub data Tok : Type 0 where
  stream_start : Tok
  stream_end : Tok
  version_directive : (major minor : ℕ) → Tok
  tag_directive : (handle prefix : List ℕ) → Tok
  document_start : Tok
  document_end : Tok
  block_sequence_start : Tok
  block_mapping_start : Tok
  block_end : Tok
  flow_sequence_start : Tok
  flow_sequence_end : Tok
  flow_mapping_start : Tok
  flow_mapping_end : Tok
  block_entry : Tok
  flow_entry : Tok
  key : Tok
  value : Tok
  alias : (name : List ℕ) → Tok
  anchor : (name : List ℕ) → Tok
  tag : (handle suffix : List ℕ) → Tok
  scalar : Style → (text : List ℕ) → Tok

pub record Token : Type 0 where
  pub position : Position
  pub tok : Tok
