use Rattle.yaml_json.proofs.Common.{fault_in, here, length, map, reason_view, reverse, Some, step_view, ◌∷◌, ◌≡◌}
use Rattle.yaml_json.proofs.find.fault_at.Given as goal

abbrev pub invariant-outer : goal.invariant-outer
invariant-outer l = fault_in (l.fn.level ∷ l.fn.waiting) (here (reason_view l.reason)) ≡ fault_in l.waiting (Some (record { path = map step_view (reverse l.steps.items); reason = reason_view l.reason }))

abbrev pub decreases-outer : goal.decreases-outer
decreases-outer l = length l.waiting
