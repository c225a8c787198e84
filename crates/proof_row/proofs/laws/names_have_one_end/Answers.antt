use Rattle.proof_row.proofs.Names.{names}
use Rattle.proof_row.proofs.laws.names_have_one_end.Goals as goal

pub returns : goal.returns
returns c = names
