use Rattle.yaml_tree.proofs.Common.{ap, arith, length}
use Rattle.yaml_tree.proofs.Rows.{row_counted}
use Rattle.yaml_tree.proofs.hash.Hash.len.Goals as goal

pub returns : goal.returns
returns c = omega (arith, row_counted c.self.inside.row.items c.self.invariant.hash, ap length c.self.view_is)
