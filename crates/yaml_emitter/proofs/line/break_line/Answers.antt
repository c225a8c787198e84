use Rattle.yaml_emitter.proofs.Answering.{ap, is_low, low_blanks, of_level, refl, stopped_early, twice, writes_as, writes_err, writes_late, ◌*◌, ◌∙◌, ◌∷◌}
use Rattle.yaml_emitter.proofs.line.break_line.Goals as goal

pub put_ascii-requires : goal.put_ascii-requires
put_ascii-requires g c = ap is_low c.line.ensures ∙ low_blanks (2 * c.args.level)

pub returns-then-level-le-MOST_LEVELS : goal.returns-then-level-le-MOST_LEVELS
returns-then-level-le-MOST_LEVELS g c = writes_as (c.line.ensures ∙ ap (λ t. 10 ∷ t) (of_level c.args.level)) c.put_ascii.ensures

pub returns-in_err-start_line : goal.returns-in_err-start_line
returns-in_err-start_line g c = rw (← twice) (writes_err c.from_residual.ensures.0 (stopped_early _ (c.in_err-start_line.ensures.err refl)))

pub returns : goal.returns
returns g c = rw (← twice) (writes_late (c.in_ok-start_line.ensures.ok refl) c.put_spaces.ensures)
