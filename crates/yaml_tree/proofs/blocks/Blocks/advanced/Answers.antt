use Rattle.yaml_tree.proofs.BlocksCommon.{ap, arith, block_read, get_or, joined, length, not_past, start, starts_all, starts_some, ◌*◌, ◌+◌, ◌-◌, ◌≤◌}
use Rattle.yaml_tree.proofs.blocks.Blocks.advanced.Goals as goal

pub index-requires : goal.index-requires
index-requires c =
    let inside = not_past c.args.self.now c.args.spot.block (c.args.spot.offset + c.args.by) (omega (arith, c.requires.within)) in
    omega (arith, ap length c.self.view_is)

pub returns-then-offset-len-clause-taken : goal.returns-then-offset-len-clause-taken
returns-then-offset-len-clause-taken c =
    let inside = not_past c.args.self.now c.args.spot.block (c.args.spot.offset + c.args.by) (omega (arith, c.requires.within)) in
    (inside, omega (arith, ap length (block_read c.self.view_is inside c.index.ensures), c.if-offset-len.true))

pub group_of-group-requires-clause-last : goal.group_of-group-requires-clause-last
group_of-group-requires-clause-last c =
    let n = length c.as_slice.result.now - 1 in
    let count = ap length c.as_slice.ensures.value in
    let some = starts_some c.self.invariant.right in
    let all = starts_all n c.self.invariant.right (omega arith) in
    omega (arith, ap (λ ys. get_or ys n 0) c.as_slice.ensures.value, ap (λ bs. length (joined bs)) c.self.view_is, c.start.ensures, c.requires.within)

pub walked-requires-clause-spot : goal.walked-requires-clause-spot
walked-requires-clause-spot c =
    let bs = c.args.self.now in
    let g = c.group_of-group.result in
    let count = ap length c.as_slice.ensures.value in
    let from = ap (λ ys. get_or ys g 0) c.as_slice.ensures.value in
    let at = c.self.invariant.right.each g (omega (arith, c.group_of-group.ensures.within)) in
    let low : start bs (16 * g) ≤ c.start.result + (c.args.spot.offset + c.args.by) = omega (arith, ap (λ ys. start ys (16 * g)) c.self.view_is, c.group_of-group.ensures.from) in
    let inside = not_past bs (16 * g) 0 (omega (arith, c.start.ensures, c.requires.within)) in
    (omega arith, omega arith)
