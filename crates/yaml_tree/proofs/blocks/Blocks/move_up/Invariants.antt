use Rattle.yaml_tree.proofs.IndexCommon.{drop, entry_moved_up, map, take, ◌++◌, ◌≡◌}
use Rattle.yaml_tree.proofs.blocks.Blocks.move_up.Given as goal

abbrev pub invariant-loop-block : goal.invariant-loop-block
invariant-loop-block l = l.block-items ≡ map (map (entry_moved_up l.gone l.count)) (take l.block-index l.initial.block-items) ++ drop l.block-index l.initial.block-items
