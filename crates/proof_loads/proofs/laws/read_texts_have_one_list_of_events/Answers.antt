use Rattle.proof_loads.proofs.Texts.{same_events}
use Rattle.proof_loads.proofs.laws.read_texts_have_one_list_of_events.Goals as goal

pub returns : goal.returns
returns c = same_events
