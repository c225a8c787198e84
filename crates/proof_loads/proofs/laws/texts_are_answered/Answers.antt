use Rattle.proof_loads.proofs.Answers.{texts_are_answered}
use Rattle.proof_loads.proofs.laws.texts_are_answered.Goals as goal

pub returns : goal.returns
returns g c = texts_are_answered g.R.MarkedEventReceiver.takes
