use Rattle.yaml_tree.proofs.Common.{◌∙◌}
use Rattle.yaml_tree.proofs.ItemsLemmas.{list_of_items}
use Rattle.yaml_tree.proofs.array.Array.clone.Goals as goal

pub returns : goal.returns
returns c = c.in_ok-items.ensures {u = tt} ∙ list_of_items _
