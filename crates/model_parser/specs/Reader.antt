-- The machine that reads streams by the table.
use Rattle.std.specs.Prelude.{ℕ, List}
use Rattle.defs_token.specs.Token.{Tok}
use Rattle.defs_event.specs.Raw.{Raw}
use Rattle.defs_event.specs.Grammar.{Goal, documents, document_end, node, after_anchor, after_tag, content, indentless_sequence_entries, block_mapping_value, flow_sequence_entries, flow_mapping_entries, flow_mapping_value, flow_mapping_valued, no_flow_mapping_value, flow_value, grammar}
use Rattle.defs_event.specs.Stream.{whole_stream}
use Rattle.model_parser.specs.Machine.{Outcome, run}

-- A goal's weight is above that of what it leaves a token to.
abbrev pub weight : Goal → ℕ
weight (node p) = 7
weight (after_anchor p) = 6
weight (after_tag p) = 6
weight (content p) = 5
weight flow_sequence_entries = 8
weight (flow_mapping_entries s) = 10
weight flow_mapping_value = 2
weight flow_mapping_valued = 8
weight no_flow_mapping_value = 2
weight flow_value = 2
weight (indentless_sequence_entries s) = 5
weight block_mapping_value = 3
weight document_end = 3
weight documents = 12
weight _ = 0

abbrev pub read_stream : List Tok → Outcome Tok Raw
read_stream tokens = run grammar weight whole_stream tokens
