use Rattle.proof_layouts.proofs.Loads.{streams_are_not_refused}
use Rattle.proof_layouts.proofs.laws.read_streams_are_not_refused.Goals as goal

pub returns : goal.returns
returns c = streams_are_not_refused
