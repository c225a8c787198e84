use Rattle.yaml_json.proofs.Answering.{false, left_in, length, Passes, ◌-◌}
use Rattle.yaml_json.proofs.find.next_met_item.Given as goal

abbrev pub invariant-at : goal.invariant-at
invariant-at l = Passes (left_in false l.row l.passed) l.passed (left_in false l.row l.at) l.at

abbrev pub decreases-at : goal.decreases-at
decreases-at l = length l.row - l.at
