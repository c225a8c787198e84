use Rattle.yaml_emitter.proofs.Answering.{ap, arith, deep_line, is_low, low_blanks, refl, stopped_as, stopped_early, writes_as, writes_err, writes_late, ◌∙◌}
use Rattle.yaml_emitter.proofs.line.start_line.Goals as goal

pub put_ascii-requires : goal.put_ascii-requires
put_ascii-requires g c = ap is_low c.line.ensures ∙ low_blanks c.args.count

pub returns-in_err-put_ascii : goal.returns-in_err-put_ascii
returns-in_err-put_ascii g c =
    writes_err c.from_residual.ensures.0
    (stopped_as (deep_line c.args.count (omega arith)) (stopped_early _ (c.in_err-put_ascii.ensures.err refl)))

pub returns : goal.returns
returns g c = writes_as (deep_line c.args.count (omega arith)) (writes_late (c.in_ok-put_ascii.ensures.ok refl) c.put_spaces.ensures)
