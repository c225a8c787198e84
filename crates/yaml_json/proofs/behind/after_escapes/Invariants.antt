use Rattle.yaml_json.proofs.ReadCommon.{length, ◌≤◌}
use Rattle.yaml_json.proofs.behind.after_escapes.Given as goal

abbrev pub invariant-parts : goal.invariant-parts
invariant-parts l = length l.rest ≤ length l.text

abbrev pub decreases-parts : goal.decreases-parts
decreases-parts l = length l.rest
