use Rattle.yaml_chars.proofs.Common.{AreSimpleUpTo, length, ◌-◌}
use Rattle.yaml_chars.proofs.block_line.simple_end.Given as goal

abbrev pub invariant-blocks-2 : goal.invariant-blocks-2
invariant-blocks-2 l = AreSimpleUpTo l.bytes l.at

abbrev pub decreases-blocks-2 : goal.decreases-blocks-2
decreases-blocks-2 l = length l.bytes - l.at
