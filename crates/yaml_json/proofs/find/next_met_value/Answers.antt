use Rattle.yaml_json.proofs.Answering.{arith, meets, no_member_left, no_more_members, passes_more, value_next}
use Rattle.yaml_json.proofs.find.next_met_value.Goals as goal

pub returns-then-at-row-clause-end : goal.returns-then-at-row-clause-end
returns-then-at-row-clause-end c = no_more_members c.at.invariant (no_member_left c.args.row.now c.at.at (omega (arith, c.if-at-row.true)))

pub at-preserved : goal.at-preserved
at-preserved c =
    passes_more c.at.invariant (value_next c.args.row.now c.at.at c.index-row-at.result (omega arith) c.index-row-at.is) c.in-Plain.ensures

pub returns-in-Deep-clause-meets : goal.returns-in-Deep-clause-meets
returns-in-Deep-clause-meets c =
    meets c.at.invariant (value_next c.args.row.now c.at.at c.index-row-at.result (omega arith) c.index-row-at.is)

pub returns-in-Faulty-clause-meets : goal.returns-in-Faulty-clause-meets
returns-in-Faulty-clause-meets c =
    meets c.at.invariant (value_next c.args.row.now c.at.at c.index-row-at.result (omega arith) c.index-row-at.is)
