use Rattle.yaml_tree.proofs.BlocksCommon.{[], ap, arith, block_read, can_fall, counted_removed, get_or, joined_remove, length, lent_back, refl, remove, ◌<◌, ◌∙◌}
use Rattle.yaml_tree.proofs.blocks.Blocks.remove_inside.Goals as goal

pub lower-requires : goal.lower-requires
lower-requires c =
    let i = c.args.spot.block in
    rw c.as_mut_slice.ensures.value (can_fall c.self.invariant.right i (omega (arith, c.requires.more, ap (λ ys. length (get_or ys i [])) c.self.view_is)))

pub invariant_of-self : goal.invariant_of-self
invariant_of-self c =
    let i = c.args.spot.block in
    let inside : i < length c.self.inside.blocks.items = omega (arith, c.requires.taken.0, ap length c.self.view_is) in
    let size = ap (λ ys. length (get_or ys i [])) c.self.view_is in
    let taken = c.remove.ensures ∙ ap (λ b. remove b c.args.spot.offset) (block_read refl inside c.index_mut.ensures.value) in
    let kept = lent_back c.self.inside.starts.len c.lower.new.starts c.self.inside.starts.items (omega (arith, c.lower.ensures.count, c.as_mut_slice.ensures.len)) in
    rw (kept, taken) (counted_removed i c.args.spot.offset c.self.invariant (rw c.as_mut_slice.ensures.value at c.lower.ensures) inside
    (omega (arith, c.requires.taken.1)) (omega (arith, c.requires.more)))

pub returns : goal.returns
returns c =
    let read = block_read c.self.view_is c.requires.taken.0 c.index_mut.ensures.value in
    rw (c.remove.ensures, read, c.self.view_is) (joined_remove c.args.self.now c.args.spot.block c.args.spot.offset c.requires.taken.0 c.requires.taken.1)
