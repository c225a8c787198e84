use Rattle.proof_loads.proofs.HasRows.Steps.{none_is_refused}
use Rattle.proof_loads.proofs.LayoutTokens.Texts.{layouts_have_their_tokens}
use Rattle.proof_loads.proofs.laws.layouts_are_not_refused.Goals as goal

pub returns : goal.returns
returns c w is f refusal = none_is_refused _ _ (layouts_have_their_tokens w is) f refusal
