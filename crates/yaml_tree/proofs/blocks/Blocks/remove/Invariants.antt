use Rattle.yaml_tree.proofs.IndexCommon.{drop, entry_closed_up, map, take, ◌++◌, ◌≡◌}
use Rattle.yaml_tree.proofs.blocks.Blocks.remove.Given as goal

abbrev pub invariant-loop-block : goal.invariant-loop-block
invariant-loop-block l = l.block-items ≡ map (map (entry_closed_up l.gone)) (take l.block-index l.initial.block-items) ++ drop l.block-index l.initial.block-items
