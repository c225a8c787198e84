use Rattle.yaml_tree.proofs.BlocksCommon.{ap, block_read, digest_at, middle_within, refl, search_after, search_before, ◌∙◌}
use Rattle.yaml_tree.proofs.blocks.edge_of_heads.Goals as goal

pub loop-low-preserved-then-is_below : goal.loop-low-preserved-then-is_below
loop-low-preserved-then-is_below c =
    let i = c.loop-low.invariant in
    let read = block_read refl (middle_within i c.loop-low-test.true) c.index-blocks-middle.is in
    search_after i c.loop-low-test.true c.is_below.ensures.order (c.digest.ensures ∙ ap (λ b. digest_at b 0) read) c.is_below.ensures.count c.if-is_below.true

pub loop-low-preserved : goal.loop-low-preserved
loop-low-preserved c =
    let i = c.loop-low.invariant in
    let read = block_read refl (middle_within i c.loop-low-test.true) c.index-blocks-middle.is in
    search_before i c.loop-low-test.true c.is_below.ensures.order (c.digest.ensures ∙ ap (λ b. digest_at b 0) read) c.is_below.ensures.count c.if-is_below.false
