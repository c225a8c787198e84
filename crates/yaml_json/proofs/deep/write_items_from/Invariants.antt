use Rattle.yaml_json.proofs.Answering.{false, Goes, left_in, length, ◌-◌}
use Rattle.yaml_json.proofs.deep.write_items_from.Given as goal

abbrev pub invariant-at : goal.invariant-at
invariant-at g l = Goes g.W.Writer.put_gives (g.S.Spacing.indentation l.spacing) l.margin l.initial.out l.is_first (left_in false l.row l.passed) l.out l.comes_first (left_in false l.row l.at)

abbrev pub decreases-at : goal.decreases-at
decreases-at g l = length l.row - l.at
