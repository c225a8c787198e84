use Rattle.proof_layouts.proofs.Loads.{foretold_are_not_refused}
use Rattle.proof_layouts.proofs.laws.foretold_events_are_not_refused.Goals as goal

pub returns : goal.returns
returns c = foretold_are_not_refused
