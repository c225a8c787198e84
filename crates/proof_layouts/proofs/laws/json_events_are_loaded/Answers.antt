use Rattle.proof_layouts.proofs.Json.Reading.{events_are_loaded}
use Rattle.proof_layouts.proofs.laws.json_events_are_loaded.Goals as goal

pub returns : goal.returns
returns c = events_are_loaded
