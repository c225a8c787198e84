use Rattle.yaml_emitter.proofs.Common.{refl, stopped_early, stopped_late, writes_err, writes_late}
use Rattle.yaml_emitter.proofs.escape.write_double_quoted.Goals as goal

pub returns-in_err-put_ascii : goal.returns-in_err-put_ascii
returns-in_err-put_ascii g c = writes_err c.from_residual.ensures.0 (stopped_early _ (c.in_err-put_ascii.ensures.err refl))

pub returns-in_err-write_characters : goal.returns-in_err-write_characters
returns-in_err-write_characters g c =
    writes_err c.from_residual-in_err-write_characters.ensures.0 (stopped_late (c.in_ok-put_ascii.ensures.ok refl) (stopped_early _ (c.in_err-write_characters.ensures.err refl)))

pub returns : goal.returns
returns g c = writes_late (c.in_ok-put_ascii.ensures.ok refl) (writes_late (c.in_ok-write_characters.ensures.ok refl) c.put_ascii-2.ensures)
