-- What a parser still has to read, as work of the grammar's table; and what may stand under what.
use Rattle.std.specs.Prelude.{◌≡◌, List, [], ◌∷◌, Option, Some, None, Bool, true, false}
use Rattle.defs_text.specs.Position.{Position}
use Rattle.defs_token.specs.Token.{Tok, Token}
use Rattle.defs_token.specs.Toks.{toks}
use Rattle.defs_event.specs.Raw.{Raw, Directive}
use Rattle.defs_event.specs.Properties.{Properties, anchored, tagged, perhaps_anchor_of, perhaps_tag_of}
use Rattle.defs_event.specs.Table.{Work, reading, saying, Derives}
use Rattle.defs_event.specs.Stream.{PlacedWork, placed_by, Extent, Places}
use Rattle.defs_event.specs.Grammar as table
use Rattle.defs_event.specs.Grammar.{Held, nothing_held, Side, Place, in_flow, in_block, in_pair, grammar}
use Rattle.model_parser.specs.declared.kind.Kind.{Kind}
use Rattle.model_parser.specs.declared.kind.Kind.TheVariants as kind
use Rattle.model_parser.specs.declared.context.NodeContext.{NodeContext}
use Rattle.model_parser.specs.declared.context.NodeContext.TheVariants as context
use Rattle.model_parser.specs.declared.state.State.{State}
use Rattle.model_parser.specs.declared.state.State.TheVariants as state
use Rattle.model_parser.specs.Kinds.{kind_of, begins_content, begins_node}
use Rattle.model_parser.specs.Goal as at
use Rattle.model_parser.specs.Goal.{Goal}

abbrev pub goal_of : State → Goal
goal_of state.Stream = at.stream
goal_of state.Documents = at.documents
goal_of state.ExplicitDocument = at.explicit_document
goal_of state.DocumentContent = at.document_content
goal_of state.DocumentEnd = at.document_end
goal_of state.BlockNode = at.node context.Block
goal_of state.BlockSequenceEntries = at.block_sequence_entries
goal_of state.IndentlessSequenceEntries = at.indentless_sequence_entries
goal_of state.IndentlessSequenceItem = at.indentless_sequence_item
goal_of state.BlockMappingEntries = at.block_mapping_entries
goal_of state.BlockMappingNextEntries = at.block_mapping_next_entries
goal_of state.BlockMappingValue = at.block_mapping_value
goal_of state.PairNode = at.pair_node
goal_of state.FlowSequenceEntries = at.flow_sequence_entries
goal_of state.FlowSequenceComma = at.flow_sequence_comma
goal_of state.FlowPairKey = at.flow_pair_key
goal_of state.FlowValue = at.flow_value
goal_of state.FlowPairEnd = at.flow_pair_end
goal_of state.FlowMappingEntries = at.flow_mapping_entries table.after_brace
goal_of state.FlowMappingComma = at.flow_mapping_comma
goal_of state.FlowMappingValue = at.flow_mapping_value
goal_of (state.FlowMappingValued m) = at.flow_mapping_valued m
goal_of state.NoFlowMappingValue = at.no_flow_mapping_value

-- ---- where a node stands, by what goes on after it

abbrev pub place_of : List State → Place
place_of (state.BlockMappingEntries ∷ ss) = in_pair table.value
place_of (state.BlockMappingValue ∷ ss) = in_pair table.key
place_of (state.FlowSequenceComma ∷ ss) = in_flow
place_of (state.FlowValue ∷ ss) = in_flow
place_of (state.FlowPairEnd ∷ ss) = in_flow
place_of (state.FlowMappingComma ∷ ss) = in_flow
place_of (state.FlowMappingValue ∷ ss) = in_flow
place_of (state.NoFlowMappingValue ∷ ss) = in_flow
place_of ss = in_block

abbrev pub side_of : List State → Side
side_of (state.BlockMappingValue ∷ ss) = table.key
side_of ss = table.value

abbrev pub context_at : Place → NodeContext
context_at in_flow = context.Flow
context_at in_block = context.Block
context_at (in_pair s) = context.Pair

-- ---- what is still to be read

abbrev pub Works : Type 0
Works = List (Work table.Goal Raw Held)

-- a goal that holds nothing, before other work
abbrev pub goal_and : table.Goal → Works → Works
goal_and g w = reading g nothing_held ∷ w

abbrev pub with_properties : Option Properties → Held
with_properties o = record { anchor = perhaps_anchor_of o; tag = perhaps_tag_of o; directives = [] }

abbrev pub with_directives : List Directive → Held
with_directives ds = record { anchor = None; tag = None; directives = ds }

-- The goal of a key or a value has in it what comes after in its mapping.
abbrev pub without_first : Works → Works
without_first [] = []
without_first (x ∷ w) = w

abbrev pub past : List State → Works → Works
past (state.BlockMappingEntries ∷ ss) w = without_first w
past (state.BlockMappingValue ∷ ss) w = without_first w
past ss w = w

-- what is read now, with these states under it, before their work
abbrev pub goal_work : Goal → List State → Works → Works
goal_work at.done ss w = w
goal_work at.ended ss w = w
goal_work at.stream ss w = goal_and table.stream w
goal_work at.documents ss w = goal_and table.documents w
goal_work at.explicit_document ss w = goal_and table.explicit_document w
goal_work (at.directives ds) ss w = reading table.directives (with_directives ds) ∷ w
goal_work at.document_content ss w = goal_and (table.node in_block) (goal_and table.document_end w)
goal_work at.document_end ss w = goal_and table.document_end w
goal_work (at.node p) ss w = goal_and (table.node (place_of ss)) (past ss w)
goal_work (at.after_anchor p a) ss w = reading (table.after_anchor (place_of ss)) (with_properties (Some (anchored a))) ∷ past ss w
goal_work (at.after_tag p t) ss w = reading (table.after_tag (place_of ss)) (with_properties (Some (tagged t))) ∷ past ss w
goal_work (at.content p o) ss w = reading (table.content (place_of ss)) (with_properties o) ∷ past ss w
goal_work at.block_sequence_entries ss w = goal_and table.block_sequence_entries w
goal_work at.block_sequence_item ss w = goal_and (table.node in_block) (goal_and table.block_sequence_entries w)
goal_work at.indentless_sequence_entries ss w = goal_and (table.indentless_sequence_entries (side_of ss)) (past ss w)
goal_work at.indentless_sequence_item ss w = goal_and (table.node in_block) (goal_and (table.indentless_sequence_entries (side_of ss)) (past ss w))
goal_work at.pair_node ss w = goal_and (table.node (place_of ss)) (past ss w)
goal_work at.block_mapping_entries ss w = goal_and table.block_mapping_entries w
goal_work at.block_mapping_next_entries ss w = goal_and table.block_mapping_entries w
goal_work at.block_mapping_value ss w = goal_and table.block_mapping_value w
goal_work at.flow_sequence_entries ss w = goal_and table.flow_sequence_entries w
goal_work at.flow_sequence_comma ss w = goal_and table.flow_sequence_comma w
goal_work at.flow_pair_key ss w = goal_and (table.node in_flow) (goal_and table.flow_value (saying Raw.pair_end ∷ goal_and table.flow_sequence_comma w))
goal_work at.flow_value ss w = goal_and table.flow_value (saying Raw.pair_end ∷ goal_and table.flow_sequence_comma w)
goal_work at.flow_valued ss w = goal_and (table.node in_flow) (saying Raw.pair_end ∷ goal_and table.flow_sequence_comma w)
goal_work at.flow_pair_end ss w = saying Raw.pair_end ∷ goal_and table.flow_sequence_comma w
goal_work at.flow_mapping_comma ss w = goal_and table.flow_mapping_comma w
goal_work (at.flow_mapping_entries s) ss w = goal_and (table.flow_mapping_entries s) w
goal_work at.flow_mapping_keyed ss w = goal_and (table.node in_flow) (goal_and table.flow_mapping_value (goal_and table.flow_mapping_comma w))
goal_work at.flow_mapping_value ss w = goal_and table.flow_mapping_value (goal_and table.flow_mapping_comma w)
goal_work (at.flow_mapping_valued m) ss w = goal_and table.flow_mapping_valued (goal_and table.flow_mapping_comma w)
goal_work at.no_flow_mapping_value ss w = goal_and table.no_flow_mapping_value w

abbrev pub works : List State → Works
works [] = []
works (s ∷ ss) = goal_work (goal_of s) ss (works ss)

abbrev pub work_of : Goal → List State → Works
work_of g ss = goal_work g ss (works ss)

-- ---- with which tokens it may go on

-- whether a token of this kind may come, by what was seen of it before the parser came there
abbrev pub may_begin : Goal → List State → Kind → Bool
may_begin (at.node p) ss k = begins_node p k
may_begin (at.content p None) ss k = begins_content p k
may_begin at.block_mapping_next_entries ss kind.Value = false
may_begin at.done (state.BlockNode ∷ ss) k = begins_node context.Block k
may_begin at.done (state.BlockMappingNextEntries ∷ ss) kind.Value = false
may_begin g ss k = true

abbrev pub first_may : Goal → List State → List Tok → Bool
first_may g ss [] = true
first_may g ss (t ∷ ts) = may_begin g ss (kind_of t)

-- What is awaited reads these tokens, all of them, and says these events.
abbrev pub Awaits : Goal → List State → List Tok → List Raw → Type 0
Awaits g ss ts es = Derives grammar (work_of g ss) ts es × (first_may g ss ts ≡ true)

-- ---- and where

-- work of which no position is promised of an event that is due
abbrev pub placed : Works → PlacedWork
placed w = placed_by (λ e. None) w

-- What is awaited reads these tokens so far, and says these events at these positions. The token before them stands there.
abbrev pub AwaitsAt : Extent → (before : Option Position) → Goal → List State → List Token → List (Raw × Position) → Type 0
AwaitsAt x b g ss ts es = Places x b (placed (work_of g ss)) ts es × (first_may g ss (toks ts) ≡ true)

-- ---- what stands under what

-- whether a block mapping goes on with these
abbrev pub is_in_mapping : List State → Bool
is_in_mapping (state.BlockMappingEntries ∷ ss) = true
is_in_mapping (state.BlockMappingValue ∷ ss) = true
is_in_mapping _ = false

-- whether these go on after a node
abbrev pub is_under : List State → Bool
is_under (state.DocumentEnd ∷ ss) = true
is_under (state.BlockSequenceEntries ∷ ss) = true
is_under (state.IndentlessSequenceEntries ∷ ss) = is_in_mapping ss
is_under (state.BlockMappingEntries ∷ ss) = true
is_under (state.BlockMappingValue ∷ ss) = true
is_under (state.FlowSequenceComma ∷ ss) = true
is_under (state.FlowValue ∷ ss) = true
is_under (state.FlowPairEnd ∷ ss) = true
is_under (state.FlowMappingComma ∷ ss) = true
is_under (state.FlowMappingValue ∷ ss) = true
is_under (state.NoFlowMappingValue ∷ ss) = true
is_under ss = false

abbrev pub IsBottom : List State → Type 0
IsBottom [] = Unit {0}
IsBottom (s ∷ ss) = ⊥

-- Something is awaited.
abbrev pub IsGoing : List State → Type 0
IsGoing [] = ⊥
IsGoing (s ∷ ss) = Unit {0}

-- A node of that context is read over these.
abbrev pub IsUnder : NodeContext → List State → Type 0
IsUnder p ss = (is_under ss ≡ true) × (context_at (place_of ss) ≡ p)

-- what must stand under what is read
abbrev pub IsFor : Goal → List State → Type 0
IsFor at.done ss = IsGoing ss
IsFor at.ended ss = IsBottom ss
IsFor at.stream ss = IsBottom ss
IsFor at.documents ss = IsBottom ss
IsFor at.explicit_document ss = IsBottom ss
IsFor (at.directives ds) ss = IsBottom ss
IsFor at.document_content ss = IsBottom ss
IsFor at.document_end ss = IsBottom ss
IsFor (at.node p) ss = IsUnder p ss
IsFor (at.after_anchor p a) ss = IsUnder p ss
IsFor (at.after_tag p t) ss = IsUnder p ss
IsFor (at.content p o) ss = IsUnder p ss
IsFor at.indentless_sequence_entries ss = is_in_mapping ss ≡ true
IsFor at.indentless_sequence_item ss = is_in_mapping ss ≡ true
IsFor at.pair_node ss = is_in_mapping ss ≡ true
IsFor _ ss = is_under ss ≡ true

abbrev pub IsNested : List State → Type 0
IsNested [] = Unit {0}
IsNested (s ∷ ss) = IsFor (goal_of s) ss × IsNested ss
