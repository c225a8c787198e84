use Rattle.yaml_scanner.proofs.Common.{drop, map, no_implicit, take, ◌++◌, ◌≡◌}
use Rattle.yaml_scanner.proofs.keys.close_all.Given as goal

abbrev pub invariant-keys : goal.invariant-keys
invariant-keys l = l.keys ≡ map (no_implicit) (take l.key-index l.initial.keys) ++ drop l.key-index l.initial.keys
