use Rattle.yaml_chars.proofs.Common.{AreSimpleUpTo, length, ◌-◌}
use Rattle.yaml_chars.proofs.block_line.simple_tail.Given as goal

abbrev pub invariant-bytes : goal.invariant-bytes
invariant-bytes l = AreSimpleUpTo l.bytes l.at

abbrev pub decreases-bytes : goal.decreases-bytes
decreases-bytes l = length l.bytes - l.at
