use Rattle.proof_loads.proofs.OneFault.{one_fault}
use Rattle.proof_loads.proofs.laws.one_fault.Goals as goal

pub returns : goal.returns
returns c = one_fault
