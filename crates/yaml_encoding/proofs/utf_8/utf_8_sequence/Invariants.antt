use Rattle.yaml_encoding.proofs.Common.{Trails}
use Rattle.yaml_encoding.proofs.utf_8.utf_8_sequence.Given as goal

abbrev pub invariant-trails : goal.invariant-trails
invariant-trails l = Trails l.input l.bytes l.start.bits l.start.low l.start.high l.start.after

abbrev pub decreases-trails : goal.decreases-trails
decreases-trails l = l.start.after
