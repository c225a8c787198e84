use Rattle.yaml_chars.proofs.Common.{AreAscii, AreWordsUpTo, EndsAtAscii, false, length, ◌-◌, ◌≡◌}
use Rattle.yaml_chars.proofs.run.Run.words.Given as goal

abbrev pub invariant-words : goal.invariant-words
invariant-words l = AreWordsUpTo l.self l.bytes l.end × (l.beyond ≡ false → AreAscii l.bytes 0 l.end) × EndsAtAscii l.self l.bytes l.end

abbrev pub decreases-words : goal.decreases-words
decreases-words l = length l.bytes - l.end
