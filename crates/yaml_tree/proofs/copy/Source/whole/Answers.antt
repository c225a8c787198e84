use Rattle.yaml_tree.proofs.Common.{ap, array_tree, flat, ◌∙◌}
use Rattle.yaml_tree.proofs.ItemsLemmas.{list_of_items, pair_list_of_pairs}
use Rattle.yaml_tree.proofs.copy.Source.whole.Goals as goal

pub with_row-requires : goal.with_row-requires
with_row-requires c = (rw c.in-Pairs.is at c.requires) ∙ ap flat (pair_list_of_pairs _)

pub returns-in-Items : goal.returns-in-Items
returns-in-Items c = rw c.in-Items.is (ap array_tree ((rw c.in-Items.is at c.requires) ∙ list_of_items _))
