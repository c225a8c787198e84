use Rattle.yaml_tree.proofs.BlocksCommon.{ap, arith, block_read, length, start_next, start_within, ◌+◌, ◌<◌}
use Rattle.yaml_tree.proofs.blocks.Blocks.start.Goals as goal

pub overflow_add-count : goal.overflow_add-count
overflow_add-count c =
    let bs = c.args.self.now in
    let i = c.loop-i.i in
    let inside : i < length bs = omega (arith, c.loop-i-test.true, c.requires.within) in
    let read = ap length (block_read c.self.view_is inside c.index.ensures) in
    omega (arith, c.requires.fits, start_next bs i (i + 1) (omega arith), start_within bs (i + 1))

pub loop-i-preserved : goal.loop-i-preserved
loop-i-preserved c =
    let i = c.loop-i.i in
    let inside : i < length c.args.self.now = omega (arith, c.loop-i-test.true, c.requires.within) in
    omega (arith, ap length (block_read c.self.view_is inside c.index.ensures), start_next c.args.self.now i (i + 1) (omega arith))
