use Rattle.yaml_tree.proofs.BlocksCommon.{all_lent, counted_map, entry_moved_up, joined_map, map, map_over_more}
use Rattle.yaml_tree.proofs.blocks.Blocks.move_up.Goals as goal

pub loop-block-preserved : goal.loop-block-preserved
loop-block-preserved c =
    let f = entry_moved_up c.args.gone c.args.count in
    rw (c.move_up.ensures, ← c.block-item.is) (map_over_more (map f) c.deref_mut-block-items.result.now c.loop-block.block-items c.loop-block.block-index
    c.block-item.result c.loop-block-test.true c.loop-block.invariant c.block-item.is)

pub invariant_of-self : goal.invariant_of-self
invariant_of-self c =
    let f = entry_moved_up c.args.gone c.args.count in
    rw (all_lent (map f) c.loop-block.block-index c.loop-block.invariant c.loop-block.auto.block-items c.loop-block-test.false c.deref_mut-block-items.ensures.value
    c.self.inside.blocks.ok.0) (counted_map f c.self.invariant)

pub returns : goal.returns
returns c =
    let f = entry_moved_up c.args.gone c.args.count in
    rw (
      all_lent (map f) c.loop-block.block-index c.loop-block.invariant c.loop-block.auto.block-items c.loop-block-test.false c.deref_mut-block-items.ensures.value
          c.self.inside.blocks.ok.0,
      c.self.view_is,
    ) (joined_map f c.args.self.now)
