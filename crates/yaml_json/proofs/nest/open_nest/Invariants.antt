use Rattle.yaml_json.proofs.Common.{Opens, view, ◌-◌}
use Rattle.yaml_json.proofs.nest.open_nest.Given as goal

abbrev pub invariant-levels : goal.invariant-levels
invariant-levels g l = Opens g.W.Writer.put_gives (g.S.Spacing.indentation l.spacing) l.margin l.initial.out (view l.node) l.out l.levels l.deepest (view l.inner)

abbrev pub decreases-levels : goal.decreases-levels
decreases-levels g l = 64 - l.levels
