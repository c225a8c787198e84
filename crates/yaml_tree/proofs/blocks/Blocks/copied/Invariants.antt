use Rattle.yaml_tree.proofs.IndexCommon.{take, ◌≡◌}
use Rattle.yaml_tree.proofs.blocks.Blocks.copied.Given as goal

abbrev pub invariant-loop-block : goal.invariant-loop-block
invariant-loop-block l = l.blocks.items ≡ take l.block-index l.block-items
