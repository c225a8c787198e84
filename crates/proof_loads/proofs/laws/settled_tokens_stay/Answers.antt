use Rattle.proof_loads.proofs.OneListBefore.{stays}
use Rattle.proof_loads.proofs.laws.settled_tokens_stay.Goals as goal

pub returns : goal.returns
returns c text given r later run = (stays given r.last later run r.begins r.behind).begins
