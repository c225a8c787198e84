-- The turns in block collections.
use Rattle.model_parser.proofs.Common.{arith, alike, both_ways, ends_entry, ends_indentless_entry, ends_part, false, Goal, inl, is_past_directives, kind_of, Leaves, List, None, nothing_written, Raw, refl, Refuses, Some, State, Takes, Tok, true, ◌∷◌, ◌≡◌, ◌≢◌}
use Rattle.model_parser.proofs.StepRows.{leads, reads_so, takes_so, leaves_so}
use Rattle.model_parser.proofs.Settling.{under_goes, under_other, under_past, under_any, mapping_under, under_reads, empties, reads_node, closes_so}
use Rattle.model_parser.specs.declared.kind.Kind.TheVariants as kind
use Rattle.model_parser.specs.declared.context.NodeContext.TheVariants as context
use Rattle.model_parser.specs.declared.state.State.TheVariants as state

-- The turns that a search finds in the table.
pub record BlockTurns (ss : List State) : Type 0 where
  pub block_sequence_entries_end : Takes Goal.block_sequence_entries ss Tok.block_end (Some Raw.sequence_end) Goal.done ss
  pub block_sequence_entries_dash : Takes Goal.block_sequence_entries ss Tok.block_entry None Goal.block_sequence_item ss
  pub block_sequence_item_empty : (t : Tok) → ends_entry (kind_of t) ≡ true → Leaves Goal.block_sequence_item ss (Some t) (Some nothing_written) Goal.done (state.BlockSequenceEntries ∷ ss)
  pub block_sequence_item_node : (t : Tok) → ends_entry (kind_of t) ≡ false → Leaves Goal.block_sequence_item ss (Some t) None (Goal.node context.Block) (state.BlockSequenceEntries ∷ ss)
  pub indentless_sequence_entries_dash : Takes Goal.indentless_sequence_entries ss Tok.block_entry None Goal.indentless_sequence_item ss
  pub indentless_sequence_item_empty : (t : Tok) → ends_indentless_entry (kind_of t) ≡ true → Leaves Goal.indentless_sequence_item ss (Some t) (Some nothing_written) Goal.done (state.IndentlessSequenceEntries ∷ ss)
  pub indentless_sequence_item_node : (t : Tok) → ends_indentless_entry (kind_of t) ≡ false → Leaves Goal.indentless_sequence_item ss (Some t) None (Goal.node context.Block) (state.IndentlessSequenceEntries ∷ ss)
  pub block_mapping_entries_value : Takes Goal.block_mapping_entries ss Tok.value (Some nothing_written) Goal.done (state.PairNode ∷ state.BlockMappingEntries ∷ ss)
  pub block_mapping_entries_take_key : Takes Goal.block_mapping_entries ss Tok.key None Goal.pair_node (state.BlockMappingValue ∷ ss)
  pub block_mapping_next_entries_end : Takes Goal.block_mapping_next_entries ss Tok.block_end (Some Raw.mapping_end) Goal.done ss
  pub block_mapping_next_entries_key : Takes Goal.block_mapping_next_entries ss Tok.key None Goal.pair_node (state.BlockMappingValue ∷ ss)
  pub block_mapping_value_value : Takes Goal.block_mapping_value ss Tok.value None Goal.pair_node (state.BlockMappingEntries ∷ ss)

pub block_turns : (ss : List State) → BlockTurns ss
block_turns ss = search (takes_so, reads_so, under_goes, under_any, under_other, under_past, empties, reads_node, alike, inl)

-- Tokens that are refused, here and between documents, and goals that go on as the same work.
pub record PlainTurns (ss : List State) : Type 0 where
  pub stream_refuses : (t : Tok) → kind_of t ≢ kind.StreamStart → Refuses Goal.stream ss t
  pub explicit_document_refuses : (t : Tok) → kind_of t ≢ kind.StreamEnd → kind_of t ≢ kind.DocumentStart → Refuses Goal.explicit_document ss t
  pub block_sequence_entries_refuses : (t : Tok) → kind_of t ≢ kind.BlockEnd → kind_of t ≢ kind.BlockEntry → Refuses Goal.block_sequence_entries ss t
  pub block_mapping_next_entries_refuses : (t : Tok) → kind_of t ≢ kind.BlockEnd → kind_of t ≢ kind.Key → Refuses Goal.block_mapping_next_entries ss t
  pub block_mapping_entries_next : (t : Tok) → kind_of t ≢ kind.Value → Leaves Goal.block_mapping_entries ss (Some t) None Goal.block_mapping_next_entries ss

pub plain_turns : (ss : List State) → PlainTurns ss
plain_turns ss = grind (arith, inl, alike)

-- ---- a sequence without indentation

pub indentless_sequence_entries_end : (ss : List State) (t : Tok) → kind_of t ≢ kind.BlockEntry → Leaves Goal.indentless_sequence_entries ss (Some t) (Some Raw.indentless_sequence_end) Goal.done ss
indentless_sequence_entries_end ss t a = leaves_so (λ n f. (n, under_goes ss (mapping_under ss f))) (λ f. under_reads ss (mapping_under ss f)) (λ f u r m. let c = closes_so ss u (mapping_under ss f) (r 9) in leads 2 (grind arith)) (λ f r m. leads 2 (grind arith)) refl
    (λ f. alike (under_other ss (mapping_under ss f)) refl) (λ f h. absurd (both_ways (is_past_directives Goal.done ss) (under_past ss (mapping_under ss f)) h))

-- ---- a block mapping

pub block_mapping_value_empty : (ss : List State) (t : Tok) → kind_of t ≢ kind.Value → Leaves Goal.block_mapping_value ss (Some t) (Some nothing_written) Goal.done (state.BlockMappingNextEntries ∷ ss)
block_mapping_value_empty ss t a = leaves_so (λ n f. ((f, n), tt)) (λ f. refl) (λ f u r m. leads 2 (grind arith)) (λ f r m. leads 2 (grind arith)) refl (λ f. alike refl refl) (λ f h. inl h)

pub pair_node_empty : (ss : List State) (t : Tok) → ends_part (kind_of t) ≡ true → Leaves Goal.pair_node ss (Some t) (Some nothing_written) Goal.done ss
pair_node_empty ss t a = empties (search mapping_under) t (λ f. grind arith)

pub pair_node_written : (ss : List State) (t : Tok) → ends_part (kind_of t) ≡ false → Leaves Goal.pair_node ss (Some t) None (Goal.node context.Pair) ss
pair_node_written ss t a = reads_node (search mapping_under) t context.Pair (λ f. grind arith) (λ f. grind arith) (λ f. alike refl refl) (λ f h. absurd (grind arith))
