use Rattle.yaml_json.proofs.ReadCommon.{HasValue, length, List, view, ℕ, ◌≤◌}
use Rattle.yaml_json.proofs.reader.end_value.Given as goal

abbrev pub invariant-levels : goal.invariant-levels
invariant-levels l = record { goes_on : (text : List ℕ) → HasValue l.initial.opened.items (view l.initial.value) text l.initial.cursor → HasValue l.opened.items (view l.value) text l.cursor; nearer : length l.cursor ≤ length l.initial.cursor }

abbrev pub decreases-levels : goal.decreases-levels
decreases-levels l = length l.opened.items
