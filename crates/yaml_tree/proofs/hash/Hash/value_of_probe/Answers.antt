use Rattle.yaml_tree.proofs.Common.{absent, arith, probed, sym}
use Rattle.yaml_tree.proofs.Rows.{placed}
use Rattle.yaml_tree.proofs.hash.Hash.value_of_probe.Goals as goal

pub returns-in_err-i-clause-value : goal.returns-in_err-i-clause-value
returns-in_err-i-clause-value c = rw c.from_residual.ensures (sym (absent (probed c.args.probe) c.args.self.now (c.in_err-i.ensures {u = tt}).place).unfound)

pub overflow_mul-i : goal.overflow_mul-i
overflow_mul-i c = omega (arith, (placed c.self.inside.row.items c.self.invariant.hash (probed c.args.probe) c.in_ok-i.i (rw (← c.self.view_is) at (c.in_ok-i.ensures {u = tt}).place)).inside)

pub overflow_add-i : goal.overflow_add-i
overflow_add-i c = omega (arith, (placed c.self.inside.row.items c.self.invariant.hash (probed c.args.probe) c.in_ok-i.i (rw (← c.self.view_is) at (c.in_ok-i.ensures {u = tt}).place)).inside)

pub index-requires : goal.index-requires
index-requires c = omega (arith, (placed c.self.inside.row.items c.self.invariant.hash (probed c.args.probe) c.in_ok-i.i (rw (← c.self.view_is) at (c.in_ok-i.ensures {u = tt}).place)).inside)

pub returns-clause-value : goal.returns-clause-value
returns-clause-value c = rw (← c.self.view_is) ((placed c.self.inside.row.items c.self.invariant.hash (probed c.args.probe) c.in_ok-i.i (rw (← c.self.view_is) at (c.in_ok-i.ensures {u = tt}).place)).found _ c.index.ensures)
