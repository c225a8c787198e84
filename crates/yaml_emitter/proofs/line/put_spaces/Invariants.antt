use Rattle.yaml_emitter.proofs.Answering.{blanks, IsLeft}
use Rattle.yaml_emitter.proofs.line.put_spaces.Given as goal

abbrev pub invariant-left : goal.invariant-left
invariant-left g l = IsLeft g.W.Writer.put_gives l.initial.out (blanks l.count) l.out (blanks l.left)

abbrev pub decreases-left : goal.decreases-left
decreases-left g l = l.left
