-- Layouts have their tokens.
use Rattle.proof_loads.proofs.Common.{LayoutsHaveNoOtherTokens, LayoutsHaveTheirTokens}
use Rattle.proof_loads.proofs.HasRows.Steps.{has_tokens, no_other_tokens}
use Rattle.proof_loads.proofs.HasRows.Values.{layout_reads}

pub layouts_have_their_tokens : LayoutsHaveTheirTokens
layouts_have_their_tokens w is = has_tokens _ _ (layout_reads w is)

pub layouts_have_no_other_tokens : LayoutsHaveNoOtherTokens
layouts_have_no_other_tokens w is ts z = no_other_tokens _ _ (layouts_have_their_tokens w is) ts z
