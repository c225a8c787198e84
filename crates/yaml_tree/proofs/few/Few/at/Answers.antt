use Rattle.yaml_tree.proofs.Common.{arith}
use Rattle.yaml_tree.proofs.Packing.{count_of, place_at}
use Rattle.yaml_tree.proofs.few.Few.at.Goals as goal

pub overflow_mul-result : goal.overflow_mul-result
overflow_mul-result c = omega (arith, c.self.invariant.few, count_of c.self.inside.packed _ c.self.view_is, c.requires)

pub overflow_add-result : goal.overflow_add-result
overflow_add-result c = omega (arith, c.self.invariant.few, count_of c.self.inside.packed _ c.self.view_is, c.requires)

pub overflow_shr-result : goal.overflow_shr-result
overflow_shr-result c = omega (arith, c.self.invariant.few, count_of c.self.inside.packed _ c.self.view_is, c.requires)

pub returns-clause-place : goal.returns-clause-place
returns-clause-place c = place_at c.self.inside.packed c.args.rank _ c.self.view_is c.requires
