use Rattle.yaml_chars.proofs.Common.{drop, ◌++◌, ◌≡◌}
use Rattle.yaml_chars.proofs.block_line.joined.Given as goal

abbrev pub invariant-held : goal.invariant-held
invariant-held l = l.text ++ drop l.i l.held ≡ drop l.from l.held
