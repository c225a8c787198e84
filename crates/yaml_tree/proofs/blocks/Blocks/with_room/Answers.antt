use Rattle.yaml_tree.proofs.BlocksCommon.{ap, arith, block_read, length, start, start_halved, start_next, start_second, ◌+◌, ◌/◌, ◌<◌}
use Rattle.yaml_tree.proofs.blocks.Blocks.with_room.Goals as goal

pub returns-then-spot-len-2-clause-rank : goal.returns-then-spot-len-2-clause-rank
returns-then-spot-len-2-clause-rank c =
    let i = c.args.spot.block in
    let inside : i < length c.args.self.now = omega (arith, c.if-spot-len.false, ap length c.self.view_is, c.requires.0) in
    omega (arith, start_next c.args.self.now i (i + 1) (omega arith), ap length (block_read c.self.view_is inside c.index.ensures), c.if-spot-count.true)

pub returns-then-spot-half-clause-rank : goal.returns-then-spot-half-clause-rank
returns-then-spot-half-clause-rank c =
    let i = c.args.spot.block in
    let inside : i < length c.args.self.now = omega (arith, c.if-spot-len.false, ap length c.self.view_is, c.requires.0) in
    omega (arith, ap (λ xs. start xs i) (c.in_ok-split.ensures {u = tt}).ok, start_halved c.args.self.now i (i + 1) (c.len-count.result / 2) (omega arith) inside)

pub returns-else-spot-half-clause-rank : goal.returns-else-spot-half-clause-rank
returns-else-spot-half-clause-rank c =
    let i = c.args.spot.block in
    let inside : i < length c.args.self.now = omega (arith, c.if-spot-len.false, ap length c.self.view_is, c.requires.0) in
    let second = start_second c.args.self.now i (i + 1) (c.len-count.result / 2) (omega arith) inside (omega (arith, c.if-spot-half.false, c.requires.1)) in
    omega (arith, ap (λ xs. start xs (i + 1)) (c.in_ok-split.ensures {u = tt}).ok, c.if-spot-half.false)
