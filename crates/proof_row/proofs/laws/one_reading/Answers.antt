use Rattle.proof_row.proofs.OneRow.{one_reading}
use Rattle.proof_row.proofs.laws.one_reading.Goals as goal

pub returns : goal.returns
returns c = one_reading
