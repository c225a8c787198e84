-- The turns in flow collections.
use Rattle.model_parser.proofs.Common.{says, alike, arith, ends_flow_key, ends_flow_pair, ends_item, ends_item_key, false, Goal, inl, kind_of, Leaves, List, None, nothing_written, Option, Raw, refl, Refuses, Some, State, Takes, Tok, true, without_node, ◌∷◌, ◌≡◌, ◌≢◌}
use Rattle.model_parser.proofs.StepRows.{leads, reads_so, takes_so, leaves_so}
use Rattle.model_parser.proofs.Settling.{under_goes, under_other, under_past, under_any, comes_so, empties, reads_node}
use Rattle.defs_text.specs.Position as chars
use Rattle.model_parser.specs.declared.kind.Kind.TheVariants as kind
use Rattle.model_parser.specs.declared.context.NodeContext.TheVariants as context
use Rattle.model_parser.specs.declared.state.State.TheVariants as state
use Rattle.defs_event.specs.Grammar as table
use Rattle.defs_event.specs.Stream as places
use Rattle.model_parser.proofs.Completions.{said_by}

-- The turns that a search finds in the table.
pub record FlowTurns (ss : List State) : Type 0 where
  pub flow_sequence_entries_end : Takes Goal.flow_sequence_entries ss Tok.flow_sequence_end (Some Raw.flow_sequence_end) Goal.done ss
  pub flow_sequence_comma_end : Takes Goal.flow_sequence_comma ss Tok.flow_sequence_end (Some Raw.flow_sequence_end) Goal.done ss
  pub flow_sequence_comma_entry : Takes Goal.flow_sequence_comma ss Tok.flow_entry None Goal.flow_sequence_entries ss
  pub flow_sequence_entries_key : Takes Goal.flow_sequence_entries ss Tok.key (Some Raw.pair_start) Goal.done (state.FlowPairKey ∷ ss)
  pub flow_pair_key_empty : (t : Tok) → ends_item_key (kind_of t) ≡ true → Leaves Goal.flow_pair_key ss (Some t) (Some nothing_written) Goal.done (state.FlowValue ∷ ss)
  pub flow_pair_key_node : (t : Tok) → ends_item_key (kind_of t) ≡ false → Leaves Goal.flow_pair_key ss (Some t) None (Goal.node context.Flow) (state.FlowValue ∷ ss)
  pub flow_value_value : Takes Goal.flow_value ss Tok.value None Goal.flow_valued ss
  pub flow_valued_empty : (t : Tok) → ends_item (kind_of t) ≡ true → Leaves Goal.flow_valued ss (Some t) (Some nothing_written) Goal.done (state.FlowPairEnd ∷ ss)
  pub flow_valued_node : (t : Tok) → ends_item (kind_of t) ≡ false → Leaves Goal.flow_valued ss (Some t) None (Goal.node context.Flow) (state.FlowPairEnd ∷ ss)
  pub flow_mapping_entries_end : (s : table.Start) → Takes (Goal.flow_mapping_entries s) ss Tok.flow_mapping_end (Some (table.flow_mapping_end_after s)) Goal.done ss
  pub flow_mapping_comma_end : Takes Goal.flow_mapping_comma ss Tok.flow_mapping_end (Some Raw.flow_mapping_end) Goal.done ss
  pub flow_mapping_comma_entry : Takes Goal.flow_mapping_comma ss Tok.flow_entry None (Goal.flow_mapping_entries table.after_comma) ss
  pub flow_mapping_entries_key : (s : table.Start) → Takes (Goal.flow_mapping_entries s) ss Tok.key None Goal.flow_mapping_keyed ss
  pub flow_mapping_entries_value : (s : table.Start) (colon : chars.Position) → Takes (Goal.flow_mapping_entries s) ss Tok.value (Some nothing_written) Goal.done (state.FlowMappingValued colon ∷ ss)
  pub flow_mapping_keyed_empty : (t : Tok) → ends_flow_key (kind_of t) ≡ true → Leaves Goal.flow_mapping_keyed ss (Some t) (Some nothing_written) Goal.done (state.FlowMappingValue ∷ ss)
  pub flow_mapping_keyed_node : (t : Tok) → ends_flow_key (kind_of t) ≡ false → Leaves Goal.flow_mapping_keyed ss (Some t) None (Goal.node context.Flow) (state.FlowMappingValue ∷ ss)
  pub flow_mapping_value_value : (m : chars.Position) → Takes Goal.flow_mapping_value ss Tok.value None (Goal.flow_mapping_valued m) ss

pub flow_turns : (ss : List State) → FlowTurns ss
flow_turns ss = search (takes_so, reads_so, under_goes, under_any, under_other, under_past, empties, reads_node, alike, inl)

-- Tokens that are refused, and goals that go on as the same work.
pub record PlainFlowTurns (ss : List State) : Type 0 where
  pub flow_sequence_comma_refuses : (t : Tok) → kind_of t ≢ kind.FlowSequenceEnd → kind_of t ≢ kind.FlowEntry → Refuses Goal.flow_sequence_comma ss t
  pub flow_mapping_comma_refuses : (t : Tok) → kind_of t ≢ kind.FlowMappingEnd → kind_of t ≢ kind.FlowEntry → Refuses Goal.flow_mapping_comma ss t
  pub flow_pair_ends : (p : Option Tok) → Leaves Goal.flow_pair_end ss p (Some Raw.pair_end) Goal.done (state.FlowSequenceComma ∷ ss)

pub plain_flow_turns : (ss : List State) → PlainFlowTurns ss
plain_flow_turns ss = grind (arith, says, said_by, places.says, inl, alike)

-- ---- a flow sequence

pub flow_sequence_entries_node : (ss : List State) (t : Tok) → kind_of t ≢ kind.FlowSequenceEnd → kind_of t ≢ kind.Key → Leaves Goal.flow_sequence_entries ss (Some t) None (Goal.node context.Flow) (state.FlowSequenceComma ∷ ss)
flow_sequence_entries_node ss t a b = leaves_so (λ n f. ((f, n), (refl, refl))) (λ f. refl) (λ f u r m. leads 1 (grind arith)) (λ f r m. let h = r 9 in leads 1 (grind arith)) refl (λ f. alike refl refl) (λ f h. inl h)

-- ---- a pair that is an item

pub flow_value_empty : (ss : List State) (t : Tok) → kind_of t ≢ kind.Value → Leaves Goal.flow_value ss (Some t) (Some nothing_written) Goal.done (state.FlowPairEnd ∷ ss)
flow_value_empty ss t a = leaves_so (λ n f. ((f, n), tt)) (λ f. refl) (λ f u r m. let h = r 9 in leads 2 (grind arith)) (λ f r m. leads 2 (grind arith)) refl (λ f. alike refl refl) (λ f h. inl h)

-- ---- a flow mapping

pub flow_mapping_entries_node : (s : table.Start) (ss : List State) (t : Tok) → kind_of t ≢ kind.FlowMappingEnd → kind_of t ≢ kind.Key → kind_of t ≢ kind.Value → Leaves (Goal.flow_mapping_entries s) ss (Some t) None (Goal.node context.Flow) (state.NoFlowMappingValue ∷ ss)
flow_mapping_entries_node s ss t a b d = leaves_so (λ n f. ((f, n), (refl, refl))) (λ f. refl) (λ f u r m. leads 1 (grind arith)) (λ f r m. let h = r 9 in leads 1 (grind arith)) refl (λ f. alike refl refl) (λ f h. inl h)

pub flow_mapping_value_empty : (ss : List State) (t : Tok) → kind_of t ≢ kind.Value → Leaves Goal.flow_mapping_value ss (Some t) (Some nothing_written) Goal.done (state.FlowMappingComma ∷ ss)
flow_mapping_value_empty ss t a = leaves_so (λ n f. ((f, n), tt)) (λ f. refl) (λ f u r m. let h = r 9 in leads 2 (grind arith)) (λ f r m. leads 2 (grind arith)) refl (λ f. alike refl refl) (λ f h. inl h)

pub flow_mapping_valued_empty : (m : chars.Position) (ss : List State) (t : Tok) → ends_flow_pair (kind_of t) ≡ true → Leaves (Goal.flow_mapping_valued m) ss (Some t) (Some Raw.unwritten_value) Goal.done (state.FlowMappingComma ∷ ss)
flow_mapping_valued_empty c ss t a = leaves_so (λ n f. ((f, n), tt)) (λ f. refl) (λ f u r m. let h = r 9 in leads 2 (grind arith)) (λ f r m. leads 2 (grind arith)) refl (λ f. without_node refl (comes_so (Goal.flow_mapping_valued c) ss t (grind arith))) (λ f h. inl h)

pub flow_mapping_valued_node : (m : chars.Position) (ss : List State) (t : Tok) → ends_flow_pair (kind_of t) ≡ false → Leaves (Goal.flow_mapping_valued m) ss (Some t) None (Goal.node context.Flow) (state.FlowMappingComma ∷ ss)
flow_mapping_valued_node c ss t a = leaves_so (λ n f. ((f, n), (refl, refl))) (λ f. refl) (λ f u r m. leads 1 (grind arith)) (λ f r m. let h = r 9 in leads 1 (grind arith)) refl (λ f. alike refl refl) (λ f h. inl h)

pub no_flow_mapping_value_empty : (ss : List State) (t : Tok) → Leaves Goal.no_flow_mapping_value ss (Some t) (Some nothing_written) Goal.done (state.FlowMappingComma ∷ ss)
no_flow_mapping_value_empty ss t = leaves_so (λ n f. ((f, n), tt)) (λ f. refl) (λ f u r m. leads 2 refl) (λ f r m. leads 2 refl) refl (λ f. alike refl refl) (λ f h. inl h)
