use Rattle.yaml_emitter.proofs.Common.{[], ap, refl, stopped_early, stopped_late, writes_as, writes_err, writes_late, ◌∷◌}
use Rattle.yaml_emitter.proofs.escape.write_code.Goals as goal

pub returns-in_err-put_ascii : goal.returns-in_err-put_ascii
returns-in_err-put_ascii g c = writes_err c.from_residual.ensures.0 (stopped_early _ (c.in_err-put_ascii.ensures.err refl))

pub returns-in_err-put_char : goal.returns-in_err-put_char
returns-in_err-put_char g c =
    writes_err c.from_residual-in_err-put_char.ensures.0
    (stopped_late (c.in_ok-put_ascii.ensures.ok refl) (stopped_early _ (rw c.hexadecimal_digit.ensures at (c.in_err-put_char.ensures.err refl))))

pub returns : goal.returns
returns g c =
    writes_late (c.in_ok-put_ascii.ensures.ok refl)
    (writes_late (rw c.hexadecimal_digit.ensures at (c.in_ok-put_char.ensures.ok refl)) (writes_as (ap (λ d. d ∷ []) c.hexadecimal_digit-2.ensures) c.put_char-2.ensures))
