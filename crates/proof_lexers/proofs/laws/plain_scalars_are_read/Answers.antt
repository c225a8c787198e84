use Rattle.proof_lexers.proofs.Plain.Scalars.{scalars_read}
use Rattle.proof_lexers.proofs.laws.plain_scalars_are_read.Goals as goal

pub returns : goal.returns
returns c = scalars_read
