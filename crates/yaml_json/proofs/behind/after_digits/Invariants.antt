use Rattle.yaml_json.proofs.ReadCommon.{length, ◌≤◌}
use Rattle.yaml_json.proofs.behind.after_digits.Given as goal

abbrev pub invariant-digits : goal.invariant-digits
invariant-digits l = length l.rest ≤ length l.text

abbrev pub decreases-digits : goal.decreases-digits
decreases-digits l = length l.rest
