use Rattle.yaml_emitter.proofs.Common.{drop, length, not, prefix_len, ◌+◌, ◌-◌, ◌≡◌, ◌≤◌}
use Rattle.yaml_emitter.proofs.runs.short_run.Given as goal

abbrev pub invariant-bytes : goal.invariant-bytes
invariant-bytes g l = (prefix_len (λ b. not (g.C.Class.holds b)) l.bytes ≡ l.at + prefix_len (λ b. not (g.C.Class.holds b)) (drop l.at l.bytes)) × (l.at ≤ length l.bytes)

abbrev pub decreases-bytes : goal.decreases-bytes
decreases-bytes g l = length l.bytes - l.at
