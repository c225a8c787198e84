use Rattle.yaml_json.proofs.Answering.{Holds, trees, view, waiting, weight, ◌∷◌}
use Rattle.yaml_json.proofs.deep.write_levels.Given as goal

abbrev pub invariant-levels : goal.invariant-levels
invariant-levels g l =
    Holds g.W.Writer.put_gives (g.S.Spacing.indentation l.spacing) l.fn.out
    (view l.node) l.out l.is_first l.margin l.level l.waiting l.places

abbrev pub decreases-levels : goal.decreases-levels
decreases-levels g l = weight (trees (l.level ∷ waiting l.waiting l.places))
