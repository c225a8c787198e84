use Rattle.yaml_tree.proofs.Common.{ap, flat, ◌∙◌}
use Rattle.yaml_tree.proofs.ItemsLemmas.{pair_list_of_pairs}
use Rattle.yaml_tree.proofs.hash.Hash.clone.Goals as goal

pub with_row-requires : goal.with_row-requires
with_row-requires c = c.in_ok-copy_row.ensures {u = tt} ∙ ap flat (pair_list_of_pairs _)
