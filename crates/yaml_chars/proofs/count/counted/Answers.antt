use Rattle.yaml_chars.proofs.Common.{ap, arith, chars, length, rules, ◌∙◌}
use Rattle.yaml_chars.proofs.CountLemmas.{block_more, block_few, count_whole}
use Rattle.yaml_chars.proofs.count.counted.Goals as goal

pub overflow_add-count : goal.overflow_add-count
overflow_add-count c =
    let few = block_few c.as_bytes-bytes.result.now _ _ _ (omega (arith, c.blocks-2-test.true))
    c.blocks-2.invariant.0 c.first_lanes-count.ensures in
    search rules

pub blocks-2-preserved : goal.blocks-2-preserved
blocks-2-preserved c =
    (block_more c.as_bytes-bytes.result.now _ _ _ c.blocks-2.invariant.0 c.first_lanes-count.ensures, omega (arith, c.blocks-2-test.true))

pub returns : goal.returns
returns c =
    count_whole _ _ _ _ c.as_bytes-bytes.ensures.utf8 c.blocks-2.invariant.0 c.counted_singly.ensures
    ∙ ap (λ b. length (chars b)) c.as_bytes-bytes.ensures.value
