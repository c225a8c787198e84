use Rattle.yaml_json.proofs.Answering.{left_after, left_stopped, level_left, margin_stops, opens_more, refl, stopped_first, when_err}
use Rattle.yaml_json.proofs.nest.open_nest.Goals as goal

pub levels-preserved : goal.levels-preserved
levels-preserved g c =
    opens_more _ _ c.in_ok-deeper.ensures c.in-Some.ensures c.levels.invariant (c.in_ok-put_ascii.ensures.ok refl)
    (c.in_ok-new_line.ensures.ok refl)

pub returns-in_err-deeper-clause-stopped : goal.returns-in_err-deeper-clause-stopped
returns-in_err-deeper-clause-stopped g c = when_err _ (margin_stops _ c.in_err-deeper.ensures c.in-Some.ensures c.levels.invariant)

pub returns-in_err-put_ascii-clause-stopped : goal.returns-in_err-put_ascii-clause-stopped
returns-in_err-put_ascii-clause-stopped g c =
    let left = level_left _ _ c.in_ok-deeper.ensures c.in-Some.ensures c.levels.invariant in
    when_err _ (left_stopped left (stopped_first _ (c.in_err-put_ascii.ensures.err refl)))

pub returns-in_err-new_line-clause-stopped : goal.returns-in_err-new_line-clause-stopped
returns-in_err-new_line-clause-stopped g c =
    let left = left_after (level_left _ _ c.in_ok-deeper.ensures c.in-Some.ensures c.levels.invariant)
    (c.in_ok-put_ascii.ensures.ok refl) in
    when_err _ (left_stopped left (stopped_first _ (c.in_err-new_line.ensures.err refl)))
