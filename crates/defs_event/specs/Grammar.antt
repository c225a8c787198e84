-- The token grammar of YAML as one table: for each goal the tokens that may come next, whether they are taken, and what is read and
-- said then. YAML 1.2, chapters 6.8 (directives), 6.9 (properties), 7 (flow), 8 (block) and 9 (documents).
use Rattle.std.specs.Prelude.{ℕ, List, [], ◌∷◌, ◌++◌, Option, Some, None}
use Rattle.defs_token.specs.Token.{Tok}
use Rattle.defs_event.specs.Event.{Tag}
use Rattle.defs_event.specs.Raw.{Raw, Directive, nothing_written}
use Rattle.defs_event.specs.Table.{Part, read, keep, hold, say, show, empty, takes, leaves, Case, on, otherwise, Table}
use Rattle.defs_event.specs.Kinds.{is_stream_start, is_stream_end, is_directive, is_document_start, is_document_end, is_block_sequence_start, is_block_mapping_start, is_block_end, is_flow_sequence_start, is_flow_sequence_end, is_flow_mapping_start, is_flow_mapping_end, is_block_entry, is_flow_entry, is_key, is_value, is_alias, is_anchor, is_tag, is_scalar, begins_flow_node, begins_node}

-- ---- what is held: properties before their node, directives before their document

pub record Held : Type 0 where
  pub anchor : Option (List ℕ)
  pub tag : Option Tag
  pub directives : List Directive

abbrev pub nothing_held : Held
nothing_held = record { anchor = None; tag = None; directives = [] }

abbrev pub holding : Tok → Held → Held
holding (Tok.anchor name) h = record h { anchor = Some name }
holding (Tok.tag handle suffix) h = record h { tag = Some (record { handle = handle; suffix = suffix }) }
holding (Tok.version_directive major minor) h = record h { directives = h.directives ++ Directive.version major minor ∷ [] }
holding (Tok.tag_directive handle prefix) h = record h { directives = h.directives ++ Directive.tag handle prefix ∷ [] }
holding _ h = h

-- ---- the events of tokens

abbrev pub event_of : Held → Tok → Raw
event_of h Tok.stream_start = Raw.stream_start
event_of h Tok.stream_end = Raw.stream_end
event_of h Tok.document_start = Raw.document_start h.directives
event_of h Tok.document_end = Raw.document_end
event_of h (Tok.alias name) = Raw.alias name
event_of h (Tok.scalar style text) = Raw.scalar text style h.anchor h.tag
event_of h Tok.flow_sequence_start = Raw.flow_sequence_start h.anchor h.tag
event_of h Tok.flow_sequence_end = Raw.flow_sequence_end
event_of h Tok.flow_mapping_start = Raw.flow_mapping_start h.anchor h.tag
event_of h Tok.block_sequence_start = Raw.sequence_start h.anchor h.tag
event_of h Tok.block_mapping_start = Raw.mapping_start h.anchor h.tag
-- a sequence without indentation has no token for its start: its first entry has the event
event_of h Tok.block_entry = Raw.indentless_sequence_start h.anchor h.tag
-- no row shows another token
event_of h _ = nothing_written

-- a node with properties alone, or with nothing at all, is an empty scalar
abbrev pub empty_event : Held → Raw
empty_event h = Raw.empty_scalar h.anchor h.tag

-- ---- the goals

-- a side of a pair of a block mapping
pub data Side : Type 0 where
  key : Side
  value : Side

-- where a node stands
pub data Place : Type 0 where
  in_flow : Place
  -- a document's node, or an entry of a block sequence
  in_block : Place
  -- a key or a value of a block mapping
  in_pair : Side → Place

-- what stands before a pair of a flow mapping
pub data Start : Type 0 where
  after_brace : Start
  after_comma : Start

pub data Goal : Type 0 where
  stream : Goal
  -- after the stream's start or `...`: here a document may do without `---`, or have directives
  documents : Goal
  -- after a directive
  directives : Goal
  -- a document that begins with `---`, or the stream's end
  explicit_document : Goal
  -- after a document's node
  document_end : Goal
  -- A node, or nothing. As a key or a value of a block mapping, with what comes after it in the mapping.
  node : Place → Goal
  -- after the node's anchor, its tag, both or neither
  after_anchor : Place → Goal
  after_tag : Place → Goal
  content : Place → Goal
  block_sequence_entries : Goal
  -- after an entry of a sequence without indentation
  indentless_sequence_entries : Side → Goal
  block_mapping_entries : Goal
  -- after a key
  block_mapping_value : Goal
  -- after `[` or a comma, and after an entry
  flow_sequence_entries : Goal
  flow_sequence_comma : Goal
  -- after `{` or a comma, and after an entry
  flow_mapping_entries : Start → Goal
  flow_mapping_comma : Goal
  -- after a key of a flow mapping, after its `:`, and after a node that is a key without value
  flow_mapping_value : Goal
  flow_mapping_valued : Goal
  no_flow_mapping_value : Goal
  -- after the key of a pair in a flow sequence
  flow_value : Goal

-- ---- the table

-- what comes after a node of a block mapping there
abbrev pub then_in_pair : Side → List (Part Goal Raw)
then_in_pair key = read block_mapping_value ∷ []
then_in_pair value = read block_mapping_entries ∷ []

abbrev pub then_in : Place → List (Part Goal Raw)
then_in (in_pair s) = then_in_pair s
then_in _ = []

-- contents that stand outside flow alone, and the node without content
abbrev pub block_contents : Place → List (Case Goal Tok Raw)
block_contents in_flow =
    otherwise (leaves (empty ∷ []))
    ∷ []
block_contents in_block =
    on is_block_sequence_start (takes (show ∷ read block_sequence_entries ∷ []))
    ∷ on is_block_mapping_start (takes (show ∷ read block_mapping_entries ∷ []))
    ∷ otherwise (leaves (empty ∷ []))
    ∷ []
block_contents (in_pair s) =
    on is_block_sequence_start (takes (show ∷ read block_sequence_entries ∷ then_in_pair s))
    ∷ on is_block_mapping_start (takes (show ∷ read block_mapping_entries ∷ then_in_pair s))
    ∷ on is_block_entry (takes (show ∷ read (node in_block) ∷ read (indentless_sequence_entries s) ∷ []))
    ∷ otherwise (leaves (empty ∷ then_in_pair s))
    ∷ []

abbrev pub flow_mapping_end_after : Start → Raw
flow_mapping_end_after after_brace = Raw.flow_mapping_end
flow_mapping_end_after after_comma = Raw.flow_mapping_end_at_comma

abbrev pub cases : Goal → List (Case Goal Tok Raw)
-- documents (chapter 9)
cases stream =
    on is_stream_start (takes (show ∷ read documents ∷ []))
    ∷ []
cases documents =
    on is_document_end (takes (read documents ∷ []))
    ∷ on is_directive (takes (hold directives ∷ []))
    ∷ on begins_node (leaves (say (Raw.document_start []) ∷ read (node in_block) ∷ read document_end ∷ []))
    ∷ otherwise (leaves (read explicit_document ∷ []))
    ∷ []
cases directives =
    on is_directive (takes (hold directives ∷ []))
    ∷ on is_document_start (takes (show ∷ read (node in_block) ∷ read document_end ∷ []))
    ∷ []
cases explicit_document =
    on is_document_start (takes (show ∷ read (node in_block) ∷ read document_end ∷ []))
    ∷ on is_stream_end (takes (show ∷ []))
    ∷ []
cases document_end =
    on is_document_end (takes (show ∷ read documents ∷ []))
    ∷ otherwise (leaves (say Raw.document_end ∷ read explicit_document ∷ []))
    ∷ []
-- nodes (section 6.9)
cases (node p) =
    on is_alias (takes (show ∷ then_in p))
    ∷ on is_anchor (takes (hold (after_anchor p) ∷ []))
    ∷ on is_tag (takes (hold (after_tag p) ∷ []))
    ∷ otherwise (leaves (keep (content p) ∷ []))
    ∷ []
cases (after_anchor p) =
    on is_tag (takes (hold (content p) ∷ []))
    ∷ otherwise (leaves (keep (content p) ∷ []))
    ∷ []
cases (after_tag p) =
    on is_anchor (takes (hold (content p) ∷ []))
    ∷ otherwise (leaves (keep (content p) ∷ []))
    ∷ []
cases (content p) =
    on is_scalar (takes (show ∷ then_in p))
    ∷ on is_flow_sequence_start (takes (show ∷ read flow_sequence_entries ∷ then_in p))
    ∷ on is_flow_mapping_start (takes (show ∷ read (flow_mapping_entries after_brace) ∷ then_in p))
    ∷ block_contents p
-- block collections (chapter 8)
cases block_sequence_entries =
    on is_block_entry (takes (read (node in_block) ∷ read block_sequence_entries ∷ []))
    ∷ on is_block_end (takes (say Raw.sequence_end ∷ []))
    ∷ []
cases (indentless_sequence_entries s) =
    on is_block_entry (takes (read (node in_block) ∷ read (indentless_sequence_entries s) ∷ []))
    ∷ otherwise (leaves (say Raw.indentless_sequence_end ∷ then_in_pair s))
    ∷ []
cases block_mapping_entries =
    on is_key (takes (read (node (in_pair key)) ∷ []))
    ∷ on is_value (takes (say nothing_written ∷ read (node (in_pair value)) ∷ []))
    ∷ on is_block_end (takes (say Raw.mapping_end ∷ []))
    ∷ []
cases block_mapping_value =
    on is_value (takes (read (node (in_pair value)) ∷ []))
    ∷ otherwise (leaves (say nothing_written ∷ read block_mapping_entries ∷ []))
    ∷ []
-- flow collections (chapter 7); a pair in a flow sequence is a mapping of its own
cases flow_sequence_entries =
    on begins_flow_node (leaves (read (node in_flow) ∷ read flow_sequence_comma ∷ []))
    ∷ on is_key (takes (say Raw.pair_start ∷ read (node in_flow) ∷ read flow_value ∷ say Raw.pair_end ∷ read flow_sequence_comma ∷ []))
    ∷ on is_flow_sequence_end (takes (show ∷ []))
    ∷ []
cases flow_sequence_comma =
    on is_flow_entry (takes (read flow_sequence_entries ∷ []))
    ∷ on is_flow_sequence_end (takes (show ∷ []))
    ∷ []
cases (flow_mapping_entries s) =
    on begins_flow_node (leaves (read (node in_flow) ∷ read no_flow_mapping_value ∷ []))
    ∷ on is_key (takes (read (node in_flow) ∷ read flow_mapping_value ∷ read flow_mapping_comma ∷ []))
    ∷ on is_value (takes (say nothing_written ∷ read flow_mapping_valued ∷ read flow_mapping_comma ∷ []))
    ∷ on is_flow_mapping_end (takes (say (flow_mapping_end_after s) ∷ []))
    ∷ []
cases flow_mapping_comma =
    on is_flow_entry (takes (read (flow_mapping_entries after_comma) ∷ []))
    ∷ on is_flow_mapping_end (takes (say Raw.flow_mapping_end ∷ []))
    ∷ []
cases flow_mapping_value =
    on is_value (takes (read flow_mapping_valued ∷ []))
    ∷ otherwise (leaves (say nothing_written ∷ []))
    ∷ []
cases flow_mapping_valued =
    on begins_flow_node (leaves (read (node in_flow) ∷ []))
    ∷ otherwise (leaves (say Raw.unwritten_value ∷ []))
    ∷ []
cases no_flow_mapping_value =
    otherwise (leaves (say nothing_written ∷ read flow_mapping_comma ∷ []))
    ∷ []
cases flow_value =
    on is_value (takes (read (node in_flow) ∷ []))
    ∷ otherwise (leaves (say nothing_written ∷ []))
    ∷ []

abbrev pub grammar : Table Goal Tok Raw Held
grammar = record { cases = cases; event = event_of; empty_event = empty_event; nothing = nothing_held; holding = holding }
