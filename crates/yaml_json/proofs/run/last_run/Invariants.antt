use Rattle.yaml_json.proofs.ReadCommon.{drop, length, prefix_len, stands, ◌+◌, ◌-◌, ◌≡◌, ◌≤◌}
use Rattle.yaml_json.proofs.run.last_run.Given as goal

abbrev pub invariant-bytes : goal.invariant-bytes
invariant-bytes l = (prefix_len stands l.bytes ≡ l.at + prefix_len stands (drop l.at l.bytes)) × (l.at ≤ length l.bytes)

abbrev pub decreases-bytes : goal.decreases-bytes
decreases-bytes l = length l.bytes - l.at
