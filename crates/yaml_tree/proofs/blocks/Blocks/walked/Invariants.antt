use Rattle.yaml_tree.proofs.IndexCommon.{length, rank_of, start, ◌+◌, ◌-◌, ◌<◌, ◌≡◌}
use Rattle.yaml_tree.proofs.blocks.Blocks.walked.Given as goal

abbrev pub invariant-loop-offset : goal.invariant-loop-offset
invariant-loop-offset l = record {
  inside : l.block < length l.self;
  at : start l.self l.block + l.offset ≡ rank_of l.self l.fn.spot + l.by;
}

abbrev pub decreases-loop-offset : goal.decreases-loop-offset
decreases-loop-offset l = length l.self - l.block
