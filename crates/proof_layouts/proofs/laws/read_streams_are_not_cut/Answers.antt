use Rattle.proof_layouts.proofs.Loads.{streams_are_not_cut}
use Rattle.proof_layouts.proofs.laws.read_streams_are_not_cut.Goals as goal

pub returns : goal.returns
returns c = streams_are_not_cut
