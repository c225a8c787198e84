use Rattle.yaml_json.proofs.ReadCommon.{length, ◌≤◌}
use Rattle.yaml_json.proofs.behind.after_blanks.Given as goal

abbrev pub invariant-blanks : goal.invariant-blanks
invariant-blanks l = length l.rest ≤ length l.text

abbrev pub decreases-blanks : goal.decreases-blanks
decreases-blanks l = length l.rest
