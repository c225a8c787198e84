use Rattle.proof_loads.proofs.Loads.{json_is_loaded}
use Rattle.proof_loads.proofs.laws.json_texts_are_loaded.Goals as goal

pub returns : goal.returns
returns g c = json_is_loaded g.R.MarkedEventReceiver.takes
