-- Where a parser stands in the token grammar.
use Rattle.std.specs.Prelude.{ℕ, List, Option}
use Rattle.defs_text.specs.Position.{Position}
use Rattle.defs_event.specs.Event.{Tag}
use Rattle.defs_event.specs.Raw.{Directive}
use Rattle.defs_event.specs.Properties.{Properties}
use Rattle.defs_event.specs.Grammar.{Start}
use Rattle.model_parser.specs.declared.context.NodeContext.{NodeContext}

-- What the parser reads now.
pub data Goal : Type 0 where
  -- nothing: it is between two events
  done : Goal
  -- nothing any more
  ended : Goal
  stream : Goal
  documents : Goal
  explicit_document : Goal
  -- after directives
  directives : List Directive → Goal
  -- after `---`
  document_content : Goal
  document_end : Goal
  node : NodeContext → Goal
  -- after a node's anchor, its tag, its properties
  after_anchor : NodeContext → List ℕ → Goal
  after_tag : NodeContext → Tag → Goal
  content : NodeContext → Option Properties → Goal
  block_sequence_entries : Goal
  -- after `-`
  block_sequence_item : Goal
  indentless_sequence_entries : Goal
  indentless_sequence_item : Goal
  pair_node : Goal
  block_mapping_entries : Goal
  block_mapping_next_entries : Goal
  block_mapping_value : Goal
  flow_sequence_entries : Goal
  flow_sequence_comma : Goal
  flow_pair_key : Goal
  flow_value : Goal
  -- after its `:`
  flow_valued : Goal
  flow_pair_end : Goal
  flow_mapping_entries : Start → Goal
  flow_mapping_comma : Goal
  -- a key after `?`, what stands after it, and what stands after its `:`, which stands there
  flow_mapping_keyed : Goal
  flow_mapping_value : Goal
  flow_mapping_valued : Position → Goal
  -- after a key that has no value
  no_flow_mapping_value : Goal
