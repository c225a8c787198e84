use Rattle.yaml_tree.proofs.BlocksCommon.{middle, middle_within, number_got, search_after, search_before}
use Rattle.yaml_tree.proofs.block.Block.edge.Goals as goal

pub loop-low-preserved-then-is_below : goal.loop-low-preserved-then-is_below
loop-low-preserved-then-is_below c =
    let i = c.loop-low.invariant in
    let got = number_got (λ e. e.digest) c.as_slice-entries.result.now (middle c.loop-low.low c.loop-low.high) (record { digest = 0; place = 0 }) (middle_within i c.loop-low-test.true) in
    search_after i c.loop-low-test.true c.is_below.ensures.order got c.is_below.ensures.count c.if-is_below.true

pub loop-low-preserved : goal.loop-low-preserved
loop-low-preserved c =
    let i = c.loop-low.invariant in
    let got = number_got (λ e. e.digest) c.as_slice-entries.result.now (middle c.loop-low.low c.loop-low.high) (record { digest = 0; place = 0 }) (middle_within i c.loop-low-test.true) in
    search_before i c.loop-low-test.true c.is_below.ensures.order got c.is_below.ensures.count c.if-is_below.false
