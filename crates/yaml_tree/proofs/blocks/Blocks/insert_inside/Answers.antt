use Rattle.yaml_tree.proofs.BlocksCommon.{[], ap, arith, block_read, can_rise, counted_inserted, get_or, insert, joined, joined_insert, length, lent_back, refl, ◌<◌, ◌∙◌}
use Rattle.yaml_tree.proofs.blocks.Blocks.insert_inside.Goals as goal

pub raise-requires : goal.raise-requires
raise-requires c = rw c.as_mut_slice.ensures.value (can_rise c.self.invariant.right (omega (arith, ap (λ xs. length (joined xs)) c.self.view_is, c.requires.fits)))

pub invariant_of-self-2 : goal.invariant_of-self-2
invariant_of-self-2 c =
    let i = c.args.spot.block in
    let inside : i < length c.self.inside.blocks.items = omega (arith, c.requires.block, ap length c.self.view_is) in
    let put = (c.in_ok-insert.ensures {u = tt}).ok ∙ ap (λ b. insert b c.args.spot.offset c.args.entry) (block_read refl inside c.index_mut.ensures.value) in
    let kept = lent_back c.self.inside.starts.len c.raise.new.starts c.self.inside.starts.items (omega (arith, c.raise.ensures.count, c.as_mut_slice.ensures.len)) in
    rw (kept, put) (counted_inserted i c.args.spot.offset c.args.entry c.self.invariant (rw c.as_mut_slice.ensures.value at c.raise.ensures) inside
    (omega (arith, c.requires.spot.1, ap (λ bs. length (get_or bs i [])) c.self.view_is)) (omega (arith, ap (λ ys. length (joined ys)) c.self.view_is, c.requires.fits)))

pub returns-clause-ok : goal.returns-clause-ok
returns-clause-ok c =
    let read = block_read c.self.view_is c.requires.block c.index_mut.ensures.value in
    rw ((c.in_ok-insert.ensures {u = tt}).ok, read, c.self.view_is)
    (joined_insert c.args.self.now c.args.spot.block c.args.spot.offset c.args.entry c.requires.block c.requires.spot.1)
