use Rattle.std.proofs.lemmas.Fmt.{decimal_digit}
use Rattle.yaml_emitter.proofs.Answering.{[], ap, last_digit, refl, stopped_as, stopped_early, sym, writes_as, writes_err, writes_late, ◌∙◌, ◌∷◌}
use Rattle.yaml_emitter.proofs.number.+write_digits.Goals as goal

pub returns-then-number-lt10 : goal.returns-then-number-lt10
returns-then-number-lt10 g t c =
    writes_as (ap (λ x. x ∷ []) c.digit.ensures ∙ sym (decimal_digit c.args.number c.if-number-lt10.true)) c.put_char.ensures

pub returns-in_err-write_digits : goal.returns-in_err-write_digits
returns-in_err-write_digits g t c =
    writes_err c.from_residual.ensures.0 (stopped_as (last_digit c.args.number _ c.if-number-lt10.false c.ranges.number.fits refl) (stopped_early _ (c.in_err-write_digits.ensures.err refl)))

pub returns : goal.returns
returns g t c =
    writes_as (last_digit c.args.number c.digit-2.result c.if-number-lt10.false c.ranges.number.fits c.digit-2.ensures) (writes_late (c.in_ok-write_digits.ensures.ok refl) c.put_char-2.ensures)
