use Rattle.proof_row.proofs.Meanings.{one_list_of_events}
use Rattle.proof_row.proofs.laws.one_list_of_events.Goals as goal

pub returns : goal.returns
returns c = one_list_of_events
