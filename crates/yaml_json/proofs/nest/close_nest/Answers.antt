use Rattle.yaml_json.proofs.Answering.{ap, arith, left_after, left_as, left_none, left_stopped, nest_end, next_end, refl, stopped_early, writes_err, writes_ok, ◌≡◌}
use Rattle.yaml_json.proofs.nest.close_nest.Goals as goal

pub left-preserved : goal.left-preserved
left-preserved g c =
    let end = left_as (next_end _ _ c.left.left _ (omega arith) c.shallower-outer.ensures) c.left.invariant in
    left_after (left_after end (c.in_ok-new_line.ensures.ok refl)) (c.in_ok-put_ascii.ensures.ok refl)

pub returns-in_err-new_line : goal.returns-in_err-new_line
returns-in_err-new_line g c =
    let end = left_as (next_end _ _ c.left.left _ (omega arith) c.shallower-outer.ensures) c.left.invariant in
    writes_err c.from_residual.ensures.0 (left_stopped end (stopped_early _ (c.in_err-new_line.ensures.err refl)))

pub returns-in_err-put_ascii : goal.returns-in_err-put_ascii
returns-in_err-put_ascii g c =
    let end = left_as (next_end _ _ c.left.left _ (omega arith) c.shallower-outer.ensures) c.left.invariant in
    writes_err c.from_residual-in_err-put_ascii.ensures.0
    (left_stopped (left_after end (c.in_ok-new_line.ensures.ok refl)) (stopped_early _ (c.in_err-put_ascii.ensures.err refl)))

pub returns : goal.returns
returns g c =
    let none : c.left.left ≡ 0 = omega arith in
    writes_ok refl (left_none (left_as (ap (nest_end _ _) none) c.left.invariant))
