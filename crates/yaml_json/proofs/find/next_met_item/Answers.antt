use Rattle.yaml_json.proofs.Answering.{item_next, meets}
use Rattle.yaml_json.proofs.find.next_met_item.Goals as goal

pub returns-in-Deep-clause-meets : goal.returns-in-Deep-clause-meets
returns-in-Deep-clause-meets c =
    meets c.at.invariant (item_next c.args.row.now c.at.at c.index-row-at.result c.at-test.true c.index-row-at.is)
