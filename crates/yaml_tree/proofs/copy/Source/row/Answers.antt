use Rattle.yaml_tree.proofs.Common.{ap, flat, items_view, sym, ◌∙◌}
use Rattle.yaml_tree.proofs.ItemsLemmas.{list_of_items, pair_list_of_pairs}
use Rattle.yaml_tree.proofs.copy.Source.row.Goals as goal

pub returns-in-Items : goal.returns-in-Items
returns-in-Items c = rw c.in-Items.is (ap items_view c.as_slice.ensures.value ∙ c.items.view_is ∙ sym (list_of_items _))

pub returns-in-Pairs : goal.returns-in-Pairs
returns-in-Pairs c =
    rw c.in-Pairs.is (ap items_view c.as_slice-in-Pairs.ensures.value ∙ c.pairs.invariant.hash.even
    ∙ ap flat (c.pairs.view_is ∙ sym (pair_list_of_pairs _)))
