use Rattle.yaml_json.proofs.ReadCommon.{IsGap, List, true, ℕ}
use Rattle.yaml_json.proofs.cursor.Cursor.skip_first_blanks.Given as goal

abbrev pub invariant-blanks : goal.invariant-blanks
invariant-blanks l = (end : List ℕ) → IsGap l.begins l.self end → IsGap true l.initial.self end
