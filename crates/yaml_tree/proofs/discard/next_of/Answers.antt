use Rattle.std.specs.Option.{IfSome}
use Rattle.yaml_tree.proofs.Common.{ap, array_tree, subst, view, weight, ◌<◌, ◌∙◌}
use Rattle.yaml_tree.proofs.WeightLemmas.{parts_weight}
use Rattle.yaml_tree.proofs.discard.next_of.Goals as goal

pub returns : goal.returns
returns c =
    let found = (c.in_ok-parts_of.ensures {u = tt}).some in
    subst (λ n. IfSome c.next_of_row.result (λ z. weight (view z) < n)) (ap (λ ts. weight (array_tree ts)) found.0 ∙ parts_weight (view c.args.y) found.1) c.next_of_row.ensures
