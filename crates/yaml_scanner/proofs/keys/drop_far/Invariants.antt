use Rattle.yaml_scanner.proofs.Common.{drop, map, still_implicit, take, ◌++◌, ◌≡◌}
use Rattle.yaml_scanner.proofs.keys.drop_far.Given as goal

abbrev pub invariant-keys : goal.invariant-keys
invariant-keys l = l.keys ≡ map (still_implicit l.fn.mark) (take l.key-index l.initial.keys) ++ drop l.key-index l.initial.keys
