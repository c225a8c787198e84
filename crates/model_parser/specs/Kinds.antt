-- What a token is, without its texts.
use Rattle.std.specs.Prelude.{◌≡◌, Bool, true, false}
use Rattle.defs_token.specs.Token.{Tok}
use Rattle.model_parser.specs.declared.kind.Kind.{Kind}
use Rattle.model_parser.specs.declared.kind.Kind.TheVariants as kind
use Rattle.model_parser.specs.declared.context.NodeContext.{NodeContext}
use Rattle.model_parser.specs.declared.context.NodeContext.TheVariants as context

abbrev pub kind_of : Tok → Kind
kind_of Tok.stream_start = kind.StreamStart
kind_of Tok.stream_end = kind.StreamEnd
kind_of (Tok.version_directive m n) = kind.VersionDirective
kind_of (Tok.tag_directive h p) = kind.TagDirective
kind_of Tok.document_start = kind.DocumentStart
kind_of Tok.document_end = kind.DocumentEnd
kind_of Tok.block_sequence_start = kind.BlockSequenceStart
kind_of Tok.block_mapping_start = kind.BlockMappingStart
kind_of Tok.block_end = kind.BlockEnd
kind_of Tok.flow_sequence_start = kind.FlowSequenceStart
kind_of Tok.flow_sequence_end = kind.FlowSequenceEnd
kind_of Tok.flow_mapping_start = kind.FlowMappingStart
kind_of Tok.flow_mapping_end = kind.FlowMappingEnd
kind_of Tok.block_entry = kind.BlockEntry
kind_of Tok.flow_entry = kind.FlowEntry
kind_of Tok.key = kind.Key
kind_of Tok.value = kind.Value
kind_of (Tok.alias n) = kind.Alias
kind_of (Tok.anchor n) = kind.Anchor
kind_of (Tok.tag h s) = kind.Tag
kind_of (Tok.scalar y x) = kind.Scalar

-- what begins a node's content at a context
abbrev pub begins_content : NodeContext → Kind → Bool
begins_content p kind.Scalar = true
begins_content p kind.FlowSequenceStart = true
begins_content p kind.FlowMappingStart = true
begins_content context.Block kind.BlockSequenceStart = true
begins_content context.Block kind.BlockMappingStart = true
begins_content context.Pair kind.BlockSequenceStart = true
begins_content context.Pair kind.BlockMappingStart = true
begins_content context.Pair kind.BlockEntry = true
begins_content _ _ = false

-- what begins a node at a context
abbrev pub begins_node : NodeContext → Kind → Bool
begins_node p kind.Alias = true
begins_node p kind.Anchor = true
begins_node p kind.Tag = true
begins_node p k = begins_content p k

-- what stands after a part of a block mapping
abbrev pub ends_part : Kind → Bool
ends_part kind.Key = true
ends_part kind.Value = true
ends_part kind.BlockEnd = true
ends_part _ = false

-- what stands after a document's node
abbrev pub ends_document : Kind → Bool
ends_document kind.DocumentStart = true
ends_document kind.DocumentEnd = true
ends_document kind.StreamEnd = true
ends_document _ = false

-- what stands after an entry of a block sequence
abbrev pub ends_entry : Kind → Bool
ends_entry kind.BlockEntry = true
ends_entry kind.BlockEnd = true
ends_entry _ = false

-- a `:`, or a token for which the test holds
abbrev pub or_value : (Kind → Bool) → Kind → Bool
or_value ends kind.Value = true
or_value ends k = ends k

-- what stands after an item of a flow sequence
abbrev pub ends_item : Kind → Bool
ends_item kind.FlowEntry = true
ends_item kind.FlowSequenceEnd = true
ends_item _ = false

-- what stands after the key of a pair that is an item
abbrev pub ends_item_key : Kind → Bool
ends_item_key = or_value ends_item

-- what stands after a pair of a flow mapping
abbrev pub ends_flow_pair : Kind → Bool
ends_flow_pair kind.FlowEntry = true
ends_flow_pair kind.FlowMappingEnd = true
ends_flow_pair _ = false

-- what stands after a key of a flow mapping
abbrev pub ends_flow_key : Kind → Bool
ends_flow_key = or_value ends_flow_pair

-- what stands after an item of a sequence without indentation
abbrev pub ends_indentless_entry : Kind → Bool
ends_indentless_entry kind.BlockEntry = true
ends_indentless_entry k = ends_part k

-- a directive
abbrev pub is_directive : Kind → Bool
is_directive kind.VersionDirective = true
is_directive kind.TagDirective = true
is_directive _ = false

-- before what a document that begins with `---` has no node: its end, and a directive, which is refused there
abbrev pub ends_content : Kind → Bool
ends_content kind.VersionDirective = true
ends_content kind.TagDirective = true
ends_content k = ends_document k

-- the token of that kind, where the kind has no texts, else some token
abbrev pub tok_of_kind : Kind → Tok
tok_of_kind kind.StreamStart = Tok.stream_start
tok_of_kind kind.StreamEnd = Tok.stream_end
tok_of_kind kind.DocumentStart = Tok.document_start
tok_of_kind kind.DocumentEnd = Tok.document_end
tok_of_kind kind.BlockSequenceStart = Tok.block_sequence_start
tok_of_kind kind.BlockMappingStart = Tok.block_mapping_start
tok_of_kind kind.BlockEnd = Tok.block_end
tok_of_kind kind.FlowSequenceStart = Tok.flow_sequence_start
tok_of_kind kind.FlowSequenceEnd = Tok.flow_sequence_end
tok_of_kind kind.FlowMappingStart = Tok.flow_mapping_start
tok_of_kind kind.FlowMappingEnd = Tok.flow_mapping_end
tok_of_kind kind.BlockEntry = Tok.block_entry
tok_of_kind kind.FlowEntry = Tok.flow_entry
tok_of_kind kind.Key = Tok.key
tok_of_kind kind.Value = Tok.value
tok_of_kind _ = Tok.stream_start

-- Tokens of that kind have no texts.
abbrev pub HasNoText : Kind → Type 0
HasNoText k = kind_of (tok_of_kind k) ≡ k
