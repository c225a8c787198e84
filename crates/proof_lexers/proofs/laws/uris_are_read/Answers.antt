use Rattle.proof_lexers.proofs.Properties.Uris.{uris_are_read}
use Rattle.proof_lexers.proofs.laws.uris_are_read.Goals as goal

pub returns : goal.returns
returns c = uris_are_read
