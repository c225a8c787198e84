use Rattle.yaml_tree.proofs.Common.{ap, arith, flat, length, refl, view, with_value_at, ◌∙◌}
use Rattle.yaml_tree.proofs.Flattened.{pairs_from, value_seen, value_set}
use Rattle.yaml_tree.proofs.Keeping.{indexed_value}
use Rattle.yaml_tree.proofs.Rows.{row_counted}
use Rattle.yaml_tree.proofs.hash.Hash.value_mut_at.Goals as goal

pub overflow_mul-i : goal.overflow_mul-i
overflow_mul-i c = omega (arith, row_counted c.self.inside.row.items c.self.invariant.hash, ap length c.self.view_is)

pub overflow_add-i : goal.overflow_add-i
overflow_add-i c = omega (arith, row_counted c.self.inside.row.items c.self.invariant.hash, ap length c.self.view_is)

pub index_mut-requires : goal.index_mut-requires
index_mut-requires c = omega (arith, row_counted c.self.inside.row.items c.self.invariant.hash, ap length c.self.view_is)

pub invariant_of-self-lent : goal.invariant_of-self-lent
invariant_of-self-lent c = λ w. indexed_value c.self.inside.row.items c.self.inside.ranks.kept c.args.i w c.self.invariant

pub returns : goal.returns
returns c =
    let even = c.self.invariant.hash.even ∙ ap flat c.self.view_is in (
      (refl, λ w. pairs_from _ (with_value_at c.args.i (view w) c.args.self.now) (value_set c.self.inside.row.items c.args.self.now c.args.i w even)),
      record { writes_back = tt; value = value_seen c.self.inside.row.items c.args.self.now even c.args.i _ c.requires c.index_mut.ensures.value },
    )
