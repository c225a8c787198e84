use Rattle.yaml_tree.proofs.BlocksCommon.{all_lent, ap, counted_map, entry_closed_up, joined, joined_map, map, map_over_more, rank_of, remove, ◌∙◌}
use Rattle.yaml_tree.proofs.blocks.Blocks.remove.Goals as goal

pub loop-block-preserved : goal.loop-block-preserved
loop-block-preserved c =
    let f = entry_closed_up c.place-gone.result in
    rw (c.close_up.ensures, ← c.block-item.is) (map_over_more (map f) c.deref_mut-block-items.result.now c.loop-block.block-items c.loop-block.block-index
    c.block-item.result c.loop-block-test.true c.loop-block.invariant c.block-item.is)

pub invariant_of-self : goal.invariant_of-self
invariant_of-self c =
    let f = entry_closed_up c.place-gone.result in
    rw (all_lent (map f) c.loop-block.block-index c.loop-block.invariant c.loop-block.auto.block-items c.loop-block-test.false c.deref_mut-block-items.ensures.value
    c.self.inside.blocks.ok.0) (counted_map f c.self.invariant)

pub returns : goal.returns
returns c =
    let f = entry_closed_up c.place-gone.result in
    rw (all_lent (map f) c.loop-block.block-index c.loop-block.invariant c.loop-block.auto.block-items c.loop-block-test.false c.deref_mut-block-items.ensures.value
    c.self.inside.blocks.ok.0) (joined_map f c.self.inside.blocks.items ∙ ap (λ xs. map f (joined xs)) c.self.view_is ∙ ap (map f) c.take.ensures
    ∙ ap (λ p. map (entry_closed_up p) (remove (joined c.args.self.now) (rank_of c.args.self.now c.args.spot))) c.place-gone.ensures)
