use Rattle.yaml_tree.proofs.Copied.{parts_are_fewer}
use Rattle.yaml_tree.proofs.copy.Level.new.Goals as goal

pub returns-clause-left : goal.returns-clause-left
returns-clause-left c = parts_are_fewer _ _ c.row-rest.ensures
