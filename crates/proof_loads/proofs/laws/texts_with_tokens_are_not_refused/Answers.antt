use Rattle.proof_loads.proofs.Common.{not_refused}
use Rattle.proof_loads.proofs.laws.texts_with_tokens_are_not_refused.Goals as goal

pub returns : goal.returns
returns c = not_refused
