use Rattle.proof_loads.proofs.Answers.{fault_after}
use Rattle.proof_loads.proofs.OneListBefore.{agree_before}
use Rattle.proof_loads.proofs.laws.one_list_of_events_pulled_before_a_fault.Goals as goal

pub returns : goal.returns
returns c p q text f g setting steady other_steady scans scanned why other m n =
    agree_before _ _ text f g _ _ setting (fault_after text p f scans steady why) (fault_after text q g scanned other_steady other) m n
