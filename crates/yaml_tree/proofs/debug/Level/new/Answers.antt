use Rattle.yaml_tree.proofs.Copied.{parts_are_fewer}
use Rattle.yaml_tree.proofs.debug.Level.new.Goals as goal

pub returns : goal.returns
returns c = parts_are_fewer _ _ c.row-rest.ensures
