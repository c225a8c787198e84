use Rattle.yaml_json.proofs.Answering.{goes_in, goes_on, item_next, refl, stopped_before, stopped_in, sym, when_err, ◌∙◌}
use Rattle.yaml_json.proofs.deep.write_items_from.Goals as goal

pub returns-in_err-begin_entry-clause-stopped : goal.returns-in_err-begin_entry-clause-stopped
returns-in_err-begin_entry-clause-stopped g c =
    let next = item_next c.args.row.now c.at.at c.index-row-at.result c.at-test.true c.index-row-at.is in
    when_err c.from_residual.result (stopped_before c.at.invariant next (c.in_err-begin_entry.ensures.err refl))

pub returns-then-has_parts-clause-stop : goal.returns-then-has_parts-clause-stop
returns-then-has_parts-clause-stop g c =
    let next = item_next c.args.row.now c.at.at c.index-row-at.result c.at-test.true c.index-row-at.is in
    goes_in c.at.invariant next tt (c.in_ok-begin_entry.ensures.ok refl) (sym c.has_parts.ensures ∙ c.if-has_parts.true)

pub at-preserved : goal.at-preserved
at-preserved g c =
    let next = item_next c.args.row.now c.at.at c.index-row-at.result c.at-test.true c.index-row-at.is in
    goes_on c.at.invariant next tt (c.in_ok-begin_entry.ensures.ok refl) (sym c.has_parts.ensures ∙ c.if-has_parts.false)
    (c.in_ok-write_flat.ensures.text.ok refl) c.write_flat.ensures.given

pub returns-in_err-write_flat-clause-stopped : goal.returns-in_err-write_flat-clause-stopped
returns-in_err-write_flat-clause-stopped g c =
    let next = item_next c.args.row.now c.at.at c.index-row-at.result c.at-test.true c.index-row-at.is in
    when_err c.from_residual-in_err-write_flat.result
    (stopped_in c.at.invariant next (c.in_ok-begin_entry.ensures.ok refl) (sym c.has_parts.ensures ∙ c.if-has_parts.false)
    (c.in_err-write_flat.ensures.text.err refl))
