-- Where a parser stands: the collections that are open there, and whether a node may begin next.
use Rattle.std.specs.Prelude.{◌≡◌, List, [], ◌∷◌, Bool, true, false, Option, Some, None}
use Rattle.defs_token.specs.Token.{Tok}
use Rattle.defs_event.specs.Place.{Collection, block_sequence, block_mapping, flow_sequence, flow_mapping, Next, node_next, directive_next, other_next}
use Rattle.model_parser.specs.declared.state.State.{State}
use Rattle.model_parser.specs.declared.state.State.TheVariants as state
use Rattle.model_parser.specs.Kinds.{kind_of, is_directive}
use Rattle.model_parser.specs.Goal as at
use Rattle.model_parser.specs.Goal.{Goal}
use Rattle.model_parser.specs.Rest.{goal_of}

-- the collections that are open where this is read, with these under it
abbrev pub open_in : Goal → List Collection → List Collection
open_in at.block_sequence_entries cs = block_sequence ∷ cs
open_in at.block_sequence_item cs = block_sequence ∷ cs
open_in at.block_mapping_entries cs = block_mapping ∷ cs
open_in at.block_mapping_next_entries cs = block_mapping ∷ cs
open_in at.block_mapping_value cs = block_mapping ∷ cs
open_in at.flow_sequence_entries cs = flow_sequence ∷ cs
open_in at.flow_sequence_comma cs = flow_sequence ∷ cs
open_in at.flow_pair_key cs = flow_sequence ∷ cs
open_in at.flow_value cs = flow_sequence ∷ cs
open_in at.flow_valued cs = flow_sequence ∷ cs
open_in at.flow_pair_end cs = flow_sequence ∷ cs
open_in at.flow_mapping_comma cs = flow_mapping ∷ cs
open_in (at.flow_mapping_entries s) cs = flow_mapping ∷ cs
open_in at.flow_mapping_keyed cs = flow_mapping ∷ cs
open_in at.flow_mapping_value cs = flow_mapping ∷ cs
open_in (at.flow_mapping_valued m) cs = flow_mapping ∷ cs
open_in at.no_flow_mapping_value cs = flow_mapping ∷ cs
open_in _ cs = cs

abbrev pub open_under : List State → List Collection
open_under [] = []
open_under (s ∷ ss) = open_in (goal_of s) (open_under ss)

abbrev pub open_at : Goal → List State → List Collection
open_at g ss = open_in g (open_under ss)

-- what comes where this is read
abbrev pub next_in : Goal → Next
next_in at.documents = node_next
next_in (at.directives ds) = directive_next
next_in at.document_content = node_next
next_in (at.node p) = node_next
next_in (at.content p None) = node_next
next_in at.block_sequence_item = node_next
next_in at.indentless_sequence_item = node_next
next_in at.pair_node = node_next
next_in at.flow_sequence_entries = node_next
next_in at.flow_pair_key = node_next
next_in at.flow_valued = node_next
next_in (at.flow_mapping_entries s) = node_next
next_in at.flow_mapping_keyed = node_next
next_in (at.flow_mapping_valued m) = node_next
next_in _ = other_next

-- what is read next: between two events, what the stack has on top
abbrev pub top : Goal → List State → Goal
top at.done [] = at.ended
top at.done (s ∷ ss) = goal_of s
top g ss = g

abbrev pub next_at : Goal → List State → Next
next_at g ss = next_in (top g ss)

abbrev pub is_node : Next → Bool
is_node node_next = true
is_node _ = false

-- whether a document's end comes
abbrev pub is_after : Goal → Bool
is_after at.document_end = true
is_after _ = false

-- whether the next token was looked at and is a directive
abbrev pub is_directive_next : Option Tok → Bool
is_directive_next None = false
is_directive_next (Some t) = is_directive (kind_of t)

-- whether a document's node is read over these
abbrev pub is_over_document : List State → Bool
is_over_document (state.DocumentEnd ∷ ss) = true
is_over_document _ = false

-- whether no directive may be next where this is read: before the node of a document, or its `---`, once something else was looked at
abbrev pub is_past_in : Goal → List State → Bool
is_past_in at.explicit_document ss = true
is_past_in (at.node p) ss = is_over_document ss
is_past_in (at.content p None) ss = is_over_document ss
is_past_in _ ss = false

abbrev pub is_past_directives : Goal → List State → Bool
is_past_directives at.done [] = false
is_past_directives at.done (s ∷ ss) = is_past_in (goal_of s) ss
is_past_directives g ss = is_past_in g ss

-- The next token was looked at, and is no directive.
abbrev pub IsNoDirective : Option Tok → Type 0
IsNoDirective None = ⊥
IsNoDirective (Some t) = is_directive (kind_of t) ≡ false
