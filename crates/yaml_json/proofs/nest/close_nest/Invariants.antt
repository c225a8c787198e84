use Rattle.yaml_json.proofs.Common.{IsLeft, nest_end}
use Rattle.yaml_json.proofs.nest.close_nest.Given as goal

abbrev pub invariant-left : goal.invariant-left
invariant-left g l = IsLeft g.W.Writer.put_gives l.initial.out (nest_end (g.S.Spacing.indentation l.spacing) l.margin l.levels) l.out (nest_end (g.S.Spacing.indentation l.spacing) l.outer l.left)

abbrev pub decreases-left : goal.decreases-left
decreases-left g l = l.left
