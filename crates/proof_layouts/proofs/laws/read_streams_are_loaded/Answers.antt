use Rattle.proof_layouts.proofs.Loads.{streams_are_loaded}
use Rattle.proof_layouts.proofs.laws.read_streams_are_loaded.Goals as goal

pub returns : goal.returns
returns c = streams_are_loaded
