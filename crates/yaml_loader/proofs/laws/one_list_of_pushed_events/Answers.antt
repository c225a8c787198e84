use Rattle.yaml_loader.proofs.Agreement.{one_list_of_pushed_events}
use Rattle.yaml_loader.proofs.laws.one_list_of_pushed_events.Goals as goal

pub returns : goal.returns
returns g c = one_list_of_pushed_events g.R.MarkedEventReceiver.takes g.S.MarkedEventReceiver.takes
