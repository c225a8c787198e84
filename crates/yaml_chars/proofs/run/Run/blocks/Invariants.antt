use Rattle.yaml_chars.proofs.Common.{AreAscii, AreWordsUpTo, false, length, ◌-◌, ◌≡◌}
use Rattle.yaml_chars.proofs.run.Run.blocks.Given as goal

abbrev pub invariant-blocks-2 : goal.invariant-blocks-2
invariant-blocks-2 l = AreWordsUpTo l.self l.bytes l.at × (l.beyond ≡ false → AreAscii l.bytes 0 l.at)

abbrev pub decreases-blocks-2 : goal.decreases-blocks-2
decreases-blocks-2 l = length l.bytes - l.at
