use Rattle.yaml_emitter.proofs.Common.{refl, stopped_early, writes_err, writes_late}
use Rattle.yaml_emitter.proofs.literal.write_line.Goals as goal

pub returns-in_err-break_line : goal.returns-in_err-break_line
returns-in_err-break_line g c = writes_err c.from_residual.ensures.0 (stopped_early _ (c.in_err-break_line.ensures.err refl))

pub returns : goal.returns
returns g c = writes_late (c.in_ok-break_line.ensures.ok refl) c.put.ensures
