use Rattle.yaml_json.proofs.Answering.{refl, stopped_early, stopped_late, when_err, wrote_then}
use Rattle.yaml_json.proofs.deep.end_level.Goals as goal

pub returns-in_err-new_line-clause-stopped : goal.returns-in_err-new_line-clause-stopped
returns-in_err-new_line-clause-stopped g c =
    rw (← c.shallower-outer.ensures) (when_err _ (stopped_early _ (c.in_err-new_line.ensures.err refl)))

pub returns-in_err-put_ascii-clause-stopped : goal.returns-in_err-put_ascii-clause-stopped
returns-in_err-put_ascii-clause-stopped g c =
    rw (← c.shallower-outer.ensures, ← c.closing.ensures)
    (when_err _ (stopped_late (c.in_ok-new_line.ensures.ok refl) (c.in_err-put_ascii.ensures.err refl)))

pub returns-clause-wrote : goal.returns-clause-wrote
returns-clause-wrote g c =
    rw (← c.shallower-outer.ensures, ← c.closing.ensures) (wrote_then (c.in_ok-new_line.ensures.ok refl)
    (c.in_ok-put_ascii.ensures.ok refl))
