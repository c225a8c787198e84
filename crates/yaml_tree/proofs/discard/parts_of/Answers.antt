use Rattle.yaml_tree.proofs.Common.{ap, flat, items_view, length, parts, rules, sym, view, ◌<◌, ◌∙◌, ◌≡◌}
use Rattle.yaml_tree.proofs.Discarding.{some_parts}
use Rattle.yaml_tree.proofs.ItemsLemmas.{list_of_items, pair_list_of_pairs}
use Rattle.yaml_tree.proofs.discard.parts_of.Goals as goal
use Rattle.yaml_tree.proofs.discard.parts_of.Goals.{in-Array, in-Hash}

pub returns-clause-some : goal.returns-clause-some
returns-clause-some c =
    let same : items_view c.match-y.items.items ≡ parts (view c.args.y) =
    elim c.match-y.branch [
      | in-Array w ↦ ap (λ v. items_view v.items) w.items-is ∙ w.into_vec-items.ensures ∙ sym (list_of_items w.in-Array.array) ∙ ap (λ y. parts (view y)) (sym w.in-Array.is)
      | in-Hash w ↦ ap (λ v. items_view v.items) w.items-is ∙ w.into_row-items.ensures ∙ ap flat (sym (pair_list_of_pairs w.in-Hash.hash)) ∙ ap (λ y. parts (view y)) (sym w.in-Hash.is)
    ] in
    let some : 0 < length c.match-y.items.items = search rules in
    some_parts c.match-y.items.items (parts (view c.args.y)) same some
