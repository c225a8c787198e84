use Rattle.yaml_tree.proofs.IndexCommon.{drop, entry_closed_up, map, take, ◌++◌, ◌≡◌}
use Rattle.yaml_tree.proofs.block.Block.close_up.Given as goal

abbrev pub invariant-loop-entry : goal.invariant-loop-entry
invariant-loop-entry l = l.entry-items ≡ map (entry_closed_up l.gone) (take l.entry-index l.initial.entry-items) ++ drop l.entry-index l.initial.entry-items
