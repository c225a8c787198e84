use Rattle.proof_loads.proofs.Common.{one_list}
use Rattle.proof_loads.proofs.laws.texts_have_one_list_of_tokens.Goals as goal

pub returns : goal.returns
returns c = one_list
