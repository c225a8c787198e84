use Rattle.yaml_tree.proofs.IndexCommon.{arith, Entry, entry_closed_up, get_or, get_or_default, map_over_more}
use Rattle.yaml_tree.proofs.block.Block.close_up.Goals as goal

pub loop-entry-preserved : goal.loop-entry-preserved
loop-entry-preserved c =
    let items = c.loop-entry.entry-items in
    let i = c.loop-entry.entry-index in
    let x : Entry = get_or items i (record { digest = 0; place = 0 }) in
    rw c.closed_up.ensures (map_over_more (entry_closed_up c.args.gone) c.deref_mut-entry-items.result.now items i x c.loop-entry-test.true c.loop-entry.invariant
    (get_or_default items i (record { digest = 0; place = 0 }) x (omega (arith, c.loop-entry-test.true, c.loop-entry.auto.entry-items))))
