use Rattle.proof_loads.proofs.Texts.{texts_are_not_refused}
use Rattle.proof_loads.proofs.laws.read_texts_are_not_refused.Goals as goal

pub returns : goal.returns
returns c = texts_are_not_refused
