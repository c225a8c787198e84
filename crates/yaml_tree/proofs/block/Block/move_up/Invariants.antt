use Rattle.yaml_tree.proofs.IndexCommon.{drop, entry_moved_up, map, take, ◌++◌, ◌≡◌}
use Rattle.yaml_tree.proofs.block.Block.move_up.Given as goal

abbrev pub invariant-loop-entry : goal.invariant-loop-entry
invariant-loop-entry l = l.entry-items ≡ map (entry_moved_up l.gone l.count) (take l.entry-index l.initial.entry-items) ++ drop l.entry-index l.initial.entry-items
