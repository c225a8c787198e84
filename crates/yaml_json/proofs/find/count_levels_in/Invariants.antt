use Rattle.yaml_json.proofs.Answering.{Searches, trees, view, weight, ◌∷◌}
use Rattle.yaml_json.proofs.find.count_levels_in.Given as goal

abbrev pub invariant-levels : goal.invariant-levels
invariant-levels l = Searches (view l.tree) l.waiting l.level l.depth l.deepest

abbrev pub decreases-levels : goal.decreases-levels
decreases-levels l = weight (trees (l.level ∷ l.waiting))
