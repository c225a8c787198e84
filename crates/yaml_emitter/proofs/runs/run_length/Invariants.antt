use Rattle.yaml_emitter.proofs.Common.{drop, length, not, prefix_len, ◌+◌, ◌-◌, ◌≡◌, ◌≤◌}
use Rattle.yaml_emitter.proofs.runs.run_length.Given as goal

abbrev pub invariant-lanes : goal.invariant-lanes
invariant-lanes g l = (prefix_len (λ b. not (g.C.Class.holds b)) l.bytes ≡ l.at + prefix_len (λ b. not (g.C.Class.holds b)) (drop l.at l.bytes)) × (l.at ≤ length l.bytes)

abbrev pub decreases-lanes : goal.decreases-lanes
decreases-lanes g l = length l.bytes - l.at
