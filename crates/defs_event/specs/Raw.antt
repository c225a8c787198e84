-- The events that the token grammar gives, before names are resolved: anchors by name, tags as written, each
-- document with its directives.
use Rattle.std.specs.Prelude.{ℕ, List, Option}
use Rattle.defs_token.specs.Token.{Style}
use Rattle.defs_event.specs.Event.{Tag}

-- A directive. One of another name than `%YAML` and `%TAG` is a `tag` of two empty texts. YAML 1.2, section 6.8.
pub data Directive : Type 0 where
  version : (major minor : ℕ) → Directive
  tag : (handle prefix : List ℕ) → Directive

-- Events of one kind are told apart by where they stand and by what they are ends of: a scalar from an empty one, and this from a value
-- that is not written in a flow mapping; a flow collection's start and end from those of a block collection, and both from those of a
-- sequence without indentation and of a single pair in a flow sequence.
pub data Raw : Type 0 where
  stream_start : Raw
  stream_end : Raw
  document_start : List Directive → Raw
  document_end : Raw
  alias : (name : List ℕ) → Raw
  scalar : (text : List ℕ) → Style → (anchor : Option (List ℕ)) → Option Tag → Raw
  empty_scalar : (anchor : Option (List ℕ)) → Option Tag → Raw
  flow_sequence_start : (anchor : Option (List ℕ)) → Option Tag → Raw
  sequence_start : (anchor : Option (List ℕ)) → Option Tag → Raw
  flow_sequence_end : Raw
  sequence_end : Raw
  -- of a sequence without indentation, whose start is its first `-`; it ends where no other comes
  indentless_sequence_start : (anchor : Option (List ℕ)) → Option Tag → Raw
  indentless_sequence_end : Raw
  flow_mapping_start : (anchor : Option (List ℕ)) → Option Tag → Raw
  mapping_start : (anchor : Option (List ℕ)) → Option Tag → Raw
  -- of a pair in a flow sequence that begins with `?`; it has no properties, and ends after its value
  pair_start : Raw
  pair_end : Raw
  -- the value of a pair in a flow mapping that has only its `:`
  unwritten_value : Raw
  flow_mapping_end : Raw
  -- right after a comma
  flow_mapping_end_at_comma : Raw
  mapping_end : Raw

-- a scalar that is not written: plain and empty, without anchor and tag
abbrev pub nothing_written : Raw
nothing_written = Raw.empty_scalar Option.None Option.None
