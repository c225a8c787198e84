-- A text has one fault.
use Rattle.proof_loads.proofs.Common.{OneFault}
use Rattle.proof_loads.proofs.OneListBefore.{one_cause}

pub one_fault : OneFault
one_fault keep_tags text f g x y m n = (one_cause keep_tags text f g x y m n).0
