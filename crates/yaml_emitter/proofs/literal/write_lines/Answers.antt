use Rattle.yaml_emitter.proofs.Answering.{first_below, left_after, left_as, left_stopped, left_writes, line_last, refl, stopped_early, writes_err}
use Rattle.yaml_emitter.proofs.literal.write_lines.Goals as goal

pub returns-in_err-write_line : goal.returns-in_err-write_line
returns-in_err-write_line g c =
    let left = left_as (first_below c.args.level (c.in-Some.ensures {u = tt})) c.lines.invariant.left in
    writes_err c.from_residual.ensures.0 (left_stopped left (stopped_early _ (c.in_err-write_line.ensures.err refl)))

pub lines-preserved : goal.lines-preserved
lines-preserved g c =
    let left = left_as (first_below c.args.level (c.in-Some.ensures {u = tt})) c.lines.invariant.left in
    record { utf8 = (c.in-Some.ensures {u = tt}).utf8; left = left_after left (c.in_ok-write_line.ensures.ok refl) }

pub returns : goal.returns
returns g c = left_writes (left_as (line_last c.args.level _ c.in_default.ensures) c.lines.invariant.left) c.write_last_line.ensures
