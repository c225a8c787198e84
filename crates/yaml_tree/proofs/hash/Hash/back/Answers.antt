use Rattle.yaml_tree.proofs.Common.{ap, arith, flat, length, suc, ◌∙◌, ◌≡◌}
use Rattle.yaml_tree.proofs.Flattened.{key_seen, value_seen}
use Rattle.yaml_tree.proofs.Placed.{last_pair}
use Rattle.yaml_tree.proofs.Rows.{row_counted}
use Rattle.yaml_tree.proofs.hash.Hash.back.Goals as goal

pub overflow_mul-last : goal.overflow_mul-last
overflow_mul-last c = omega (arith, c.in_ok-last.ensures, row_counted c.self.inside.row.items c.self.invariant.hash, ap length c.self.view_is)

pub index-requires : goal.index-requires
index-requires c = omega (arith, c.in_ok-last.ensures, row_counted c.self.inside.row.items c.self.invariant.hash, ap length c.self.view_is)

pub overflow_mul-last-2 : goal.overflow_mul-last-2
overflow_mul-last-2 c = omega (arith, c.in_ok-last.ensures, row_counted c.self.inside.row.items c.self.invariant.hash, ap length c.self.view_is)

pub overflow_add-last : goal.overflow_add-last
overflow_add-last c = omega (arith, c.in_ok-last.ensures, row_counted c.self.inside.row.items c.self.invariant.hash, ap length c.self.view_is)

pub index-requires-2 : goal.index-requires-2
index-requires-2 c = omega (arith, c.in_ok-last.ensures, row_counted c.self.inside.row.items c.self.invariant.hash, ap length c.self.view_is)

pub returns : goal.returns
returns c =
    let last : length c.args.self.now ≡ suc c.in_ok-last.last = omega (arith, c.in_ok-last.ensures, c.len.ensures) in
    let even = c.self.invariant.hash.even ∙ ap flat c.self.view_is in
    last_pair c.args.self.now c.in_ok-last.last _ _ last (key_seen c.self.inside.row.items c.args.self.now even c.in_ok-last.last _ (omega arith) c.index.ensures)
    (value_seen c.self.inside.row.items c.args.self.now even c.in_ok-last.last _ (omega arith) c.index-2.ensures)
