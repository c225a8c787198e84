use Rattle.proof_loads.proofs.OneListBefore.{one_pushed_list_before}
use Rattle.proof_loads.proofs.laws.one_list_of_events_pushed_before_a_fault.Goals as goal

pub returns : goal.returns
returns g c = one_pushed_list_before g.R.MarkedEventReceiver.takes g.S.MarkedEventReceiver.takes
