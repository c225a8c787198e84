use Rattle.yaml_json.proofs.ReadCommon.{false, IsGap, length, List, ℕ}
use Rattle.yaml_json.proofs.cursor.Cursor.skip_blanks.Given as goal

abbrev pub invariant-blanks : goal.invariant-blanks
invariant-blanks l = (end : List ℕ) → IsGap l.begins l.self end → IsGap false l.initial.self end

abbrev pub decreases-blanks : goal.decreases-blanks
decreases-blanks l = length l.self
