use Rattle.proof_row.proofs.Meanings.{one_meaning}
use Rattle.proof_row.proofs.laws.one_meaning.Goals as goal

pub returns : goal.returns
returns c = one_meaning
