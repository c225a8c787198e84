use Rattle.proof_loads.proofs.Texts.{events_are_read}
use Rattle.proof_loads.proofs.laws.events_of_read_texts_are_read.Goals as goal

pub returns : goal.returns
returns c = events_are_read
