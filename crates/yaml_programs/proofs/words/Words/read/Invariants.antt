use Rattle.yaml_programs.proofs.Common.{asked_behind, drop, left, map, None, row, string_bytes, ◌≡◌}
use Rattle.yaml_programs.proofs.words.Words.read.Given as goal

abbrev pub invariant-words : goal.invariant-words
invariant-words l =
    left l.read (map row l.options) (map string_bytes (drop l.word-index l.words)) ≡ asked_behind (map row l.options) None (map string_bytes l.words)
