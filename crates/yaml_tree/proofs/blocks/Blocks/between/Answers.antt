use Rattle.yaml_tree.proofs.BlocksCommon.{arith, rank_within}
use Rattle.yaml_tree.proofs.blocks.Blocks.between.Goals as goal

pub overflow_add-before : goal.overflow_add-before
overflow_add-before c = omega (arith, rank_within c.args.self.now c.args.low.block c.args.low.offset c.requires.low.1, c.requires.fits)

pub overflow_add-result : goal.overflow_add-result
overflow_add-result c = omega (arith, rank_within c.args.self.now c.args.high.block c.args.high.offset c.requires.high.1, c.requires.fits)
