use Rattle.yaml_emitter.proofs.Answering.{append_assoc, ap, arith, at_least_one, codes, flat_after, flat_valid, goes_err, goes_ok, goes_refused, goes_written, left_after, left_all, left_as, mark_text, parts_then, refl, rests_text, stopped_at, sym, view, ◌++◌}
use Rattle.std.proofs.Math.Bool.{and-true}
use Rattle.yaml_emitter.proofs.deep.begin_value.Goals as goal

pub returns-then-level-ge-DEEPEST : goal.returns-then-level-ge-DEEPEST
returns-then-level-ge-DEEPEST g c = goes_err refl (stopped_at tt left_all)

pub returns-in_err-begin_block : goal.returns-in_err-begin_block
returns-in_err-begin_block g c =
    rw (← (c.if-has_parts.ensures {u = tt}), and-true, append_assoc, append_assoc, ← append_assoc (mark_text c.args.mark))
    (goes_refused _ c.from_residual.ensures.0 left_all (c.in_err-begin_block.ensures.err refl))

pub returns-in_err-push : goal.returns-in_err-push
returns-in_err-push g c =
    rw (← (c.if-has_parts.ensures {u = tt}), and-true, append_assoc, append_assoc, ← append_assoc (mark_text c.args.mark))
    (goes_err c.from_residual-in_err-push.ensures.0 (stopped_at tt (left_after left_all (c.in_ok-begin_block.ensures.ok refl))))

pub returns-then-has_parts : goal.returns-then-has_parts
returns-then-has_parts g c =
    let parts = c.if-has_parts.ensures {u = tt} in
    rw (c.in_ok-push.ensures.ok, ← parts, and-true, append_assoc, append_assoc, ← append_assoc (mark_text c.args.mark))
    (goes_ok refl
    (left_as (ap (λ x. x ++ rests_text c.args.settings.now.compact c.args.settings.now.multiline c.args.outer.now) (c.of.ensures.text _ _))
    (left_after left_all (c.in_ok-begin_block.ensures.ok refl)))
    (omega (arith, c.of.ensures.weight)) (λ v. (c.of.ensures.valid v.0, v.1)))

pub returns-in_err-put_spaced : goal.returns-in_err-put_spaced
returns-in_err-put_spaced g c =
    goes_refused _ c.from_residual-in_err-put_spaced.ensures.0
    (left_as (parts_then (mark_text c.args.mark ++ codes " ") _ _
    (flat_after _ _ c.args.blocks_lower c.args.level (mark_text c.args.mark) (view c.args.node.now)
    (sym (c.if-has_parts.ensures {u = tt})))) left_all)
    (c.in_err-put_spaced.ensures.err refl)

pub returns : goal.returns
returns g c =
    let flat = sym (c.if-has_parts.ensures {u = tt}) in
    goes_written
    (left_after (left_as (parts_then (mark_text c.args.mark ++ codes " ") _ _
    (flat_after _ _ c.args.blocks_lower c.args.level (mark_text c.args.mark) _ flat)) left_all)
    (c.in_ok-put_spaced.ensures.ok refl))
    c.write_scalar.ensures.text
    (omega (arith, at_least_one (view c.args.node.now)))
    (λ v. (flat_valid (view c.args.node.now) flat c.write_scalar.ensures.valid, v))
