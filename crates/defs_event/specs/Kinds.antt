-- Which tokens a row of the table is for.
use Rattle.std.specs.Prelude.{Bool, true, false}
use Rattle.defs_token.specs.Token.{Tok}

abbrev pub is_stream_start : Tok → Bool
is_stream_start Tok.stream_start = true
is_stream_start _ = false

abbrev pub is_stream_end : Tok → Bool
is_stream_end Tok.stream_end = true
is_stream_end _ = false

abbrev pub is_directive : Tok → Bool
is_directive (Tok.version_directive major minor) = true
is_directive (Tok.tag_directive handle prefix) = true
is_directive _ = false

abbrev pub is_document_start : Tok → Bool
is_document_start Tok.document_start = true
is_document_start _ = false

abbrev pub is_document_end : Tok → Bool
is_document_end Tok.document_end = true
is_document_end _ = false

abbrev pub is_block_sequence_start : Tok → Bool
is_block_sequence_start Tok.block_sequence_start = true
is_block_sequence_start _ = false

abbrev pub is_block_mapping_start : Tok → Bool
is_block_mapping_start Tok.block_mapping_start = true
is_block_mapping_start _ = false

abbrev pub is_block_end : Tok → Bool
is_block_end Tok.block_end = true
is_block_end _ = false

abbrev pub is_flow_sequence_start : Tok → Bool
is_flow_sequence_start Tok.flow_sequence_start = true
is_flow_sequence_start _ = false

abbrev pub is_flow_sequence_end : Tok → Bool
is_flow_sequence_end Tok.flow_sequence_end = true
is_flow_sequence_end _ = false

abbrev pub is_flow_mapping_start : Tok → Bool
is_flow_mapping_start Tok.flow_mapping_start = true
is_flow_mapping_start _ = false

abbrev pub is_flow_mapping_end : Tok → Bool
is_flow_mapping_end Tok.flow_mapping_end = true
is_flow_mapping_end _ = false

abbrev pub is_block_entry : Tok → Bool
is_block_entry Tok.block_entry = true
is_block_entry _ = false

abbrev pub is_flow_entry : Tok → Bool
is_flow_entry Tok.flow_entry = true
is_flow_entry _ = false

abbrev pub is_key : Tok → Bool
is_key Tok.key = true
is_key _ = false

abbrev pub is_value : Tok → Bool
is_value Tok.value = true
is_value _ = false

abbrev pub is_alias : Tok → Bool
is_alias (Tok.alias name) = true
is_alias _ = false

abbrev pub is_anchor : Tok → Bool
is_anchor (Tok.anchor name) = true
is_anchor _ = false

abbrev pub is_tag : Tok → Bool
is_tag (Tok.tag handle suffix) = true
is_tag _ = false

abbrev pub is_scalar : Tok → Bool
is_scalar (Tok.scalar style text) = true
is_scalar _ = false

-- what a node in a flow collection begins with
abbrev pub begins_flow_node : Tok → Bool
begins_flow_node (Tok.alias name) = true
begins_flow_node (Tok.anchor name) = true
begins_flow_node (Tok.tag handle suffix) = true
begins_flow_node (Tok.scalar style text) = true
begins_flow_node Tok.flow_sequence_start = true
begins_flow_node Tok.flow_mapping_start = true
begins_flow_node _ = false

-- what a node outside flow begins with
abbrev pub begins_node : Tok → Bool
begins_node Tok.block_sequence_start = true
begins_node Tok.block_mapping_start = true
begins_node t = begins_flow_node t
