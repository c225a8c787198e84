use Rattle.yaml_json.proofs.ReadCommon.{length, ◌≤◌}
use Rattle.yaml_json.proofs.likely.next_value.Given as goal

abbrev pub invariant-levels : goal.invariant-levels
invariant-levels l = length l.rest ≤ length l.text

abbrev pub decreases-levels : goal.decreases-levels
decreases-levels l = length l.rest
