use Rattle.yaml_json.proofs.ReadCommon.{drop, length, prefix_len, stands, ◌+◌, ◌-◌, ◌≡◌, ◌≤◌}
use Rattle.yaml_json.proofs.run.run_length.Given as goal

abbrev pub invariant-lanes : goal.invariant-lanes
invariant-lanes l = (prefix_len stands l.bytes ≡ l.at + prefix_len stands (drop l.at l.bytes)) × (l.at ≤ length l.bytes)

abbrev pub decreases-lanes : goal.decreases-lanes
decreases-lanes l = length l.bytes - l.at
