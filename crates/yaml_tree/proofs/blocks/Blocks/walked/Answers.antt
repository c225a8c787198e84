use Rattle.yaml_tree.proofs.BlocksCommon.{ap, arith, block_read, length, not_past, start_next, ◌+◌, ◌-◌}
use Rattle.yaml_tree.proofs.blocks.Blocks.walked.Goals as goal

pub loop-offset-init : goal.loop-offset-init
loop-offset-init c = record {
  inside = not_past c.args.self.now c.args.spot.block (c.args.spot.offset + c.args.by) (omega (arith, c.requires.within));
  at = omega arith;
}

pub loop-offset-preserved : goal.loop-offset-preserved
loop-offset-preserved c =
    let bs = c.args.self.now in
    let i = c.loop-offset.block in
    let inside = c.loop-offset.invariant.inside in
    let tested = ap length (block_read c.self.view_is inside c.index.ensures) in
    let read = ap length (block_read c.self.view_is inside c.index-in-loop-offset.ensures) in
    let next = start_next bs i (i + 1) (omega arith) in
    record { inside = not_past bs (i + 1) (c.loop-offset.offset - c.len-offset.result) (omega (arith, c.requires.within)); at = omega arith }
