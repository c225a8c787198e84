use Rattle.yaml_tree.proofs.Packing.{count_of}
use Rattle.yaml_tree.proofs.few.Few.len.Goals as goal

pub returns-clause-count : goal.returns-clause-count
returns-clause-count c = count_of c.self.inside.packed _ c.self.view_is
