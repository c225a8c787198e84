use Rattle.yaml_tree.proofs.Common.{[], ap, array, array_tree, items_of, items_view, view, ◌++◌, ◌∷◌}
use Rattle.yaml_tree.proofs.Discarding.{descended, two_items}
use Rattle.yaml_tree.proofs.discard.descend.Goals as goal

pub returns : goal.returns
returns c =
    descended (λ t. array (items_of (items_view c.args.outer.items ++ t ∷ view c.args.last ∷ []))) _ _ _ _ _ (c.in-Some.ensures {u = tt}).items c.push_reserved-3.ensures.items
    (ap array_tree (two_items _ _ _ _ _ c.push_reserved-2.ensures.items c.push_reserved.ensures.items))
