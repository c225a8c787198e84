use Rattle.yaml_scanner.proofs.Common.{drop, lowered, map, take, ◌++◌, ◌≡◌}
use Rattle.yaml_scanner.proofs.keys.lower_all.Given as goal

abbrev pub invariant-keys : goal.invariant-keys
invariant-keys l = l.keys ≡ map (lowered) (take l.key-index l.initial.keys) ++ drop l.key-index l.initial.keys
