use Rattle.overlay.proofs.Common.{ap, items_of, pairs_of_mappings, view, with_new_pairs, ◌∙◌, ◌∷◌}
use Rattle.overlay.proofs.PutLemmas.{mapping_put, other_left_out}
use Rattle.overlay.proofs.carry_out.add_mappings.Goals as goal
use Rattle.overlay.proofs.carry_out.add_mappings.Goals.{in-Hash+in_ok-add_new_pairs, in_default}

pub items-preserved : goal.items-preserved
items-preserved c =
    let rest = c.next.new.self in
    let steps = c.in-Some.ensures.steps in
    elim c.match-item.branch [
      | in-Hash+in_ok-add_new_pairs w ↦
          ap (λ ps. with_new_pairs ps (pairs_of_mappings (items_of rest))) (w.pairs-is ∙ w.in_ok-add_new_pairs.ensures)
          ∙ mapping_put c.items.pairs w.in-Hash.mapping c.items.item-iterator rest (steps ∙ ap (λ y. view y ∷ rest) w.in-Hash.is) ∙ c.items.invariant
      | in_default w ↦
          ap (λ ps. with_new_pairs ps (pairs_of_mappings (items_of rest))) w.pairs-is
          ∙ ap (with_new_pairs c.items.pairs) (other_left_out c.in-Some.item c.items.item-iterator rest w.in_default.not-Hash steps) ∙ c.items.invariant
    ]
