use Rattle.yaml_emitter.proofs.Answering.{break_boundary, break_passed, first_cut, unbroken}
use Rattle.yaml_emitter.proofs.literal.first_cut.Goals as goal

pub returns-then-end-text : goal.returns-then-end-text
returns-then-end-text c =
    let all = rw (c.run_length-end.ensures, c.as_bytes.ensures.value) at c.if-end-text.true in
    unbroken c.args.text.now c.utf8.text all

pub split_at-requires : goal.split_at-requires
split_at-requires c =
    let some = rw (c.run_length-end.ensures, c.as_bytes.ensures.value) at c.if-end-text.false in
    rw (c.run_length-end.ensures, c.as_bytes.ensures.value) (break_boundary c.args.text.now c.utf8.text some)

pub split_at-requires-2 : goal.split_at-requires-2
split_at-requires-2 c =
    let some = rw (c.run_length-end.ensures, c.as_bytes.ensures.value) at c.if-end-text.false in
    rw (c.split_at.ensures.back, c.run_length-end.ensures, c.as_bytes.ensures.value) (break_passed c.args.text.now c.utf8.text some)

pub returns : goal.returns
returns c =
    let some = rw (c.run_length-end.ensures, c.as_bytes.ensures.value) at c.if-end-text.false in
    rw (c.split_at-2.ensures.back, c.split_at.ensures.front, c.split_at.ensures.back, c.run_length-end.ensures, c.as_bytes.ensures.value)
    (first_cut c.args.text.now c.utf8.text some)
