use Rattle.yaml_programs.proofs.Common.{drop, map, option_named, row, ◌≡◌}
use Rattle.yaml_programs.proofs.option.option_of.Given as goal

abbrev pub invariant-loop-option : goal.invariant-loop-option
invariant-loop-option l = option_named (map row (drop l.option-index l.options)) l.name ≡ option_named (map row l.options) l.name
