use Rattle.yaml_chars.proofs.Common.{arith, length, ◌+◌, ◌<◌}
use Rattle.yaml_chars.proofs.BlockLineLemmas.{text_ends}
use Rattle.yaml_chars.proofs.block_line.text_end.Goals as goal

pub returns : goal.returns
returns c =
    let opens = c.if-not-opens.false in
    let some : c.args.from < length c.args.held.now + c.simple_end-end.result = omega (arith, c.if-len-end.false, c.len.ensures.value) in
    text_ends _ _ _ _ c.simple_end-end.ensures (c.opens.ensures.begun opens) some (c.opens.ensures.first opens _ some)
    (c.are_simple.ensures c.if-not-are_simple.false) (c.closes.ensures c.if-not-closes.false)
