use Rattle.yaml_json.proofs.Answering.{arith, goes_in, goes_on, member_next, members_end, no_member_left, refl, stopped_before, stopped_early, stopped_in, stopped_late, sym, when_err, wrote_then, ◌∙◌}
use Rattle.yaml_json.proofs.deep.write_members_from.Goals as goal

pub returns-then-at-row-clause-end : goal.returns-then-at-row-clause-end
returns-then-at-row-clause-end g c = members_end c.at.invariant (no_member_left c.args.row.now c.at.at (omega (arith, c.if-at-row.true)))

pub returns-in_err-begin_entry-clause-stopped : goal.returns-in_err-begin_entry-clause-stopped
returns-in_err-begin_entry-clause-stopped g c =
    let next = member_next c.args.row.now c.at.at _ _ (omega arith) c.index-row-at.is c.index-row-at-in-at.is in
    when_err c.from_residual.result (stopped_before c.at.invariant next (stopped_early _ (c.in_err-begin_entry.ensures.err refl)))

pub returns-in_err-write_key-clause-stopped : goal.returns-in_err-write_key-clause-stopped
returns-in_err-write_key-clause-stopped g c =
    let next = member_next c.args.row.now c.at.at _ _ (omega arith) c.index-row-at.is c.index-row-at-in-at.is in
    when_err c.from_residual-in_err-write_key.result
    (stopped_before c.at.invariant next (stopped_late (c.in_ok-begin_entry.ensures.ok refl) (stopped_early _ (c.in_err-write_key.ensures.text.err refl))))

pub returns-in_err-end_key-clause-stopped : goal.returns-in_err-end_key-clause-stopped
returns-in_err-end_key-clause-stopped g c =
    let next = member_next c.args.row.now c.at.at _ _ (omega arith) c.index-row-at.is c.index-row-at-in-at.is in
    when_err c.from_residual-in_err-end_key.result
    (stopped_before c.at.invariant next (stopped_late (c.in_ok-begin_entry.ensures.ok refl) (stopped_late (c.in_ok-write_key.ensures.text.ok refl) (c.in_err-end_key.ensures.err refl))))

pub returns-then-has_parts-clause-stop : goal.returns-then-has_parts-clause-stop
returns-then-has_parts-clause-stop g c =
    let next = member_next c.args.row.now c.at.at _ _ (omega arith) c.index-row-at.is c.index-row-at-in-at.is in
    goes_in c.at.invariant next c.write_key.ensures.given (wrote_then (c.in_ok-begin_entry.ensures.ok refl) (wrote_then (c.in_ok-write_key.ensures.text.ok refl) (c.in_ok-end_key.ensures.ok refl))) (sym c.has_parts.ensures ∙ c.if-has_parts.true)

pub at-preserved : goal.at-preserved
at-preserved g c =
    let next = member_next c.args.row.now c.at.at _ _ (omega arith) c.index-row-at.is c.index-row-at-in-at.is in
    goes_on c.at.invariant next c.write_key.ensures.given
    (wrote_then (c.in_ok-begin_entry.ensures.ok refl) (wrote_then (c.in_ok-write_key.ensures.text.ok refl)
    (c.in_ok-end_key.ensures.ok refl)))
    (sym c.has_parts.ensures ∙ c.if-has_parts.false) (c.in_ok-write_flat.ensures.text.ok refl) c.write_flat.ensures.given

pub returns-in_err-write_flat-clause-stopped : goal.returns-in_err-write_flat-clause-stopped
returns-in_err-write_flat-clause-stopped g c =
    let next = member_next c.args.row.now c.at.at _ _ (omega arith) c.index-row-at.is c.index-row-at-in-at.is in
    when_err c.from_residual-in_err-write_flat.result
    (stopped_in c.at.invariant next
    (wrote_then (c.in_ok-begin_entry.ensures.ok refl) (wrote_then (c.in_ok-write_key.ensures.text.ok refl)
    (c.in_ok-end_key.ensures.ok refl)))
    (sym c.has_parts.ensures ∙ c.if-has_parts.false) (c.in_err-write_flat.ensures.text.err refl))
