use Rattle.yaml_tree.proofs.BlocksCommon.{[], ap, arith, block_read, can_subtract, counted_halved, drop, get_or, halved, halved_made, insert, joined, joined_halved, length, lent_back, refl, ◌+◌, ◌<◌, ◌∙◌}
use Rattle.yaml_tree.proofs.blocks.Blocks.split.Goals as goal

pub subtract_blocks-requires : goal.subtract_blocks-requires
subtract_blocks-requires c =
    let i = c.args.block in
    let inside : i < length c.self.inside.blocks.items = omega (arith, c.requires.block, ap length c.self.view_is) in
    let upper = (c.in_ok-upper.ensures {u = tt}) ∙ ap (drop c.args.half) (block_read refl inside c.index.ensures) in
    let made = halved_made c.self.inside.blocks.items i c.args.half inside (c.in-Ok.ensures.items ∙ ap (λ ys. insert ys (i + 1) c.in_ok-upper.upper) c.reserve.ensures.items) upper c.index_mut.ensures.value c.truncate.ensures in
    let grown = rw (c.as_slice.ensures.value, c.reserve.ensures.items) at c.grow.ensures.same in
    rw (c.as_mut_slice.ensures.value, c.as_slice-2.ensures.value, made) (can_subtract grown i c.args.half inside)

pub invariant_of-self-2 : goal.invariant_of-self-2
invariant_of-self-2 c =
    let i = c.args.block in
    let inside : i < length c.self.inside.blocks.items = omega (arith, c.requires.block, ap length c.self.view_is) in
    let upper = (c.in_ok-upper.ensures {u = tt}) ∙ ap (drop c.args.half) (block_read refl inside c.index.ensures) in
    let made = halved_made c.self.inside.blocks.items i c.args.half inside (c.in-Ok.ensures.items ∙ ap (λ ys. insert ys (i + 1) c.in_ok-upper.upper) c.reserve.ensures.items) upper c.index_mut.ensures.value c.truncate.ensures in
    let grown = rw (c.as_slice.ensures.value, c.reserve.ensures.items) at c.grow.ensures.same in
    let enough = (c.in_ok-grow.ensures {u = tt}).ok in
    let kept = lent_back c.grow.new.starts.len c.subtract_blocks.new.starts c.grow.new.starts.items (omega (arith, c.subtract_blocks.ensures.count, c.as_mut_slice.ensures.len)) in
    rw (kept, made) (counted_halved i c.args.half c.self.invariant.filled grown c.self.invariant.fits
    (rw (c.as_mut_slice.ensures.value, c.as_slice-2.ensures.value, made) at c.subtract_blocks.ensures) inside c.requires.first
    (omega (arith, c.requires.second, ap (λ ys. length (get_or ys i [])) c.self.view_is)) (omega (arith, ap length (c.as_slice.ensures.value ∙ c.reserve.ensures.items))))

pub returns-clause-ok : goal.returns-clause-ok
returns-clause-ok c =
    let i = c.args.block in
    let inside : i < length c.self.inside.blocks.items = omega (arith, c.requires.block, ap length c.self.view_is) in
    let upper = (c.in_ok-upper.ensures {u = tt}) ∙ ap (drop c.args.half) (block_read refl inside c.index.ensures) in
    let made = halved_made c.self.inside.blocks.items i c.args.half inside (c.in-Ok.ensures.items ∙ ap (λ ys. insert ys (i + 1) c.in_ok-upper.upper) c.reserve.ensures.items) upper c.index_mut.ensures.value c.truncate.ensures in
    made ∙ ap (λ ys. halved ys i (i + 1) c.args.half) c.self.view_is

pub returns-clause-joined : goal.returns-clause-joined
returns-clause-joined c = ap joined (returns-clause-ok c) ∙ joined_halved c.args.self.now c.args.block (c.args.block + 1) c.args.half (omega arith) c.requires.block
