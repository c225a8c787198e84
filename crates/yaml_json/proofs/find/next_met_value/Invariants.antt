use Rattle.yaml_json.proofs.Answering.{left_in, length, Passes, true, ◌-◌}
use Rattle.yaml_json.proofs.find.next_met_value.Given as goal

abbrev pub invariant-at : goal.invariant-at
invariant-at l = Passes (left_in true l.row l.passed) l.passed (left_in true l.row l.at) l.at

abbrev pub decreases-at : goal.decreases-at
decreases-at l = length l.row - l.at
