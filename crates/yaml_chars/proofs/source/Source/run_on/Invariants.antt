use Rattle.yaml_chars.proofs.Common.{GoesOn}
use Rattle.yaml_chars.proofs.source.Source.run_on.Given as goal

abbrev pub invariant-run : goal.invariant-run
invariant-run g l = GoesOn l.run l.fn.self l.source l.count l.fn.filling.text l.text

abbrev pub decreases-run : goal.decreases-run
decreases-run g l = l.source.left
