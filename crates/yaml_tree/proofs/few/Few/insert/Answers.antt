use Rattle.yaml_tree.proofs.Common.{arith}
use Rattle.yaml_tree.proofs.Packing.{is_with}
use Rattle.yaml_tree.proofs.few.Few.insert.Goals as goal

pub overflow_mul-self : goal.overflow_mul-self
overflow_mul-self c = omega (arith, (is_with c.self.view_is c.self.invariant c.requires.room c.requires.rank c.requires.low).above)

pub overflow_add-self : goal.overflow_add-self
overflow_add-self c = omega (arith, (is_with c.self.view_is c.self.invariant c.requires.room c.requires.rank c.requires.low).above)

pub overflow_add-self-2 : goal.overflow_add-self-2
overflow_add-self-2 c = omega (arith, (is_with c.self.view_is c.self.invariant c.requires.room c.requires.rank c.requires.low).fits)

pub overflow_add-self-3 : goal.overflow_add-self-3
overflow_add-self-3 c = omega (arith, (is_with c.self.view_is c.self.invariant c.requires.room c.requires.rank c.requires.low).fits)

pub invariant_of-self : goal.invariant_of-self
invariant_of-self c = (is_with c.self.view_is c.self.invariant c.requires.room c.requires.rank c.requires.low).packed

pub returns : goal.returns
returns c = (is_with c.self.view_is c.self.invariant c.requires.room c.requires.rank c.requires.low).places
