use Rattle.yaml_tree.proofs.BlocksCommon.{[], ap, AreCounted, arith, can_fall, counted_without, get_or, joined_without, length, lent_back, refl, start_head, subst, sym, ◌<◌, ◌∙◌}
use Rattle.yaml_tree.proofs.blocks.Blocks.remove_block.Goals as goal

pub add_blocks-requires : goal.add_blocks-requires
add_blocks-requires c = rw (c.as_mut_slice.ensures.value, c.as_slice.ensures.value) (λ g h. omega (arith, start_head g c.self.invariant.right h, c.self.invariant.fits))

pub lower-requires : goal.lower-requires
lower-requires c =
    let i = c.args.block in
    let up = rw c.as_mut_slice.ensures.value at c.add_blocks.ensures in
    let mids = c.as_mut_slice-2.ensures.value ∙ lent_back c.self.inside.starts.len c.add_blocks.new.starts c.self.inside.starts.items (omega (arith, up.count, c.as_mut_slice.ensures.len)) in
    let fall = can_fall c.self.invariant.right i (omega (arith, c.requires.one, ap (λ ys. length (get_or ys i [])) c.self.view_is)) in
    rw mids (λ g h k. let within : g < length c.self.inside.starts.items = omega (arith, up.count) in omega (arith, fall g h within, up.inside g h within))

pub invariant_of-self : goal.invariant_of-self
invariant_of-self c =
    let i = c.args.block in
    let inside : i < length c.self.inside.blocks.items = omega (arith, c.requires.block, ap length c.self.view_is) in
    let up = rw (c.as_mut_slice.ensures.value, c.as_slice.ensures.value) at c.add_blocks.ensures in
    let mids = lent_back c.self.inside.starts.len c.add_blocks.new.starts c.self.inside.starts.items (omega (arith, up.count, c.as_mut_slice.ensures.len)) in
    let down = rw (c.as_mut_slice-2.ensures.value, mids) at c.lower.ensures in
    let kept = lent_back c.self.inside.starts.len c.lower.new.starts _ (omega (arith, up.count, down.count, c.as_mut_slice.ensures.len)) in
    subst (AreCounted c.remove.new.self.items) (sym kept) (rw c.remove.ensures.items
    (counted_without i c.self.invariant up down inside (omega (arith, c.requires.one, ap (λ ys. length (get_or ys i [])) c.self.view_is))))

pub returns : goal.returns
returns c = rw (c.remove.ensures.items, c.self.view_is) (joined_without c.args.self.now c.args.block _ c.requires.block c.requires.one refl)
