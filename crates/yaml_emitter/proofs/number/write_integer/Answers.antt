use Rattle.yaml_emitter.proofs.Answering.{negative, nonnegative, refl, stopped_as, stopped_early, to_z-of_z, writes_as, writes_err, writes_late}
use Rattle.yaml_emitter.proofs.number.write_integer.Goals as goal

pub returns-then-number-ge0 : goal.returns-then-number-ge0
returns-then-number-ge0 g c = writes_as (nonnegative _ c.args.number _ (to_z-of_z c.ranges.number) c.unsigned_abs.ensures.value c.if-number-ge0.true) c.write_digits.ensures

pub returns-in_err-put_ascii : goal.returns-in_err-put_ascii
returns-in_err-put_ascii g c =
    writes_err c.from_residual.ensures.0 (stopped_as (negative _ c.args.number _ (to_z-of_z c.ranges.number) refl c.if-number-ge0.false) (stopped_early _ (c.in_err-put_ascii.ensures.err refl)))

pub returns : goal.returns
returns g c =
    writes_as (negative _ c.args.number _ (to_z-of_z c.ranges.number) c.unsigned_abs-2.ensures.value c.if-number-ge0.false) (writes_late (c.in_ok-put_ascii.ensures.ok refl) c.write_digits-2.ensures)
