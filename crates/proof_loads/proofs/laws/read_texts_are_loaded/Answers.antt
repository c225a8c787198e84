use Rattle.proof_loads.proofs.Loads.{texts_are_loaded}
use Rattle.proof_loads.proofs.laws.read_texts_are_loaded.Goals as goal

pub returns : goal.returns
returns g c = texts_are_loaded g.R.MarkedEventReceiver.takes
