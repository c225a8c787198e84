use Rattle.yaml_chars.proofs.Common.{AreAscii, false, IsWordBetween, length, ◌-◌, ◌≡◌}
use Rattle.yaml_chars.proofs.run.Run.word_end.Given as goal

abbrev pub invariant-word : goal.invariant-word
invariant-word l = IsWordBetween l.self l.bytes l.start l.at × (l.beyond ≡ false → AreAscii l.bytes l.start l.at)

abbrev pub decreases-word : goal.decreases-word
decreases-word l = length l.bytes - l.at
