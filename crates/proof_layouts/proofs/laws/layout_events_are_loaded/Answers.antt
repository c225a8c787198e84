use Rattle.proof_layouts.proofs.Layouts.Documents.{events_are_loaded}
use Rattle.proof_layouts.proofs.laws.layout_events_are_loaded.Goals as goal

pub returns : goal.returns
returns c = events_are_loaded
