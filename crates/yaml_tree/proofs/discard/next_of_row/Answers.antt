use Rattle.yaml_tree.proofs.Common.{arith}
use Rattle.yaml_tree.proofs.Discarding.{row_alone, row_gone, row_next}
use Rattle.yaml_tree.proofs.discard.next_of_row.Goals as goal

pub returns-in_default-pop : goal.returns-in_default-pop
returns-in_default-pop c = row_alone _ _ _ (c.in-Some.ensures {u = tt}).items (omega (arith, (c.in_default-pop.ensures {u = tt}).cases.0, c.pop.new.self.ok.0))

pub returns-in-None : goal.returns-in-None
returns-in-None c = row_gone _ _ _ _ _ _ (c.in-Some.ensures {u = tt}).items (c.in-Some-pop.ensures {u = tt}).items c.push_reserved.ensures.items

pub returns-in-Some-parts_of : goal.returns-in-Some-parts_of
returns-in-Some-parts_of c =
    let found = (c.in-Some-parts_of.ensures {u = tt}).some in
    row_next _ _ _ _ _ _ _ (c.in-Some.ensures {u = tt}).items (c.in-Some-pop.ensures {u = tt}).items found.0 found.1 c.descend.ensures
