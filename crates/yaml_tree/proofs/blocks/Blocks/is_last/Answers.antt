use Rattle.yaml_tree.proofs.BlocksCommon.{ap, arith, block_read, length, rank_inside, ◌<◌}
use Rattle.yaml_tree.proofs.blocks.Blocks.is_last.Goals as goal

pub returns-clause-taken : goal.returns-clause-taken
returns-clause-taken c =
    let inside : c.args.spot.block < length c.args.self.now = omega (arith, c.if-len-spot.false, ap length c.self.view_is) in
    let read = ap length (block_read c.self.view_is inside c.index.ensures) in
    λ t. rank_inside c.args.self.now c.args.spot.block c.args.spot.offset (omega (arith, c.if-len-spot-2.false))
