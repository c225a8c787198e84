use Rattle.yaml_loader.proofs.Common.{ap, pairs_beside, pairs_shown, Some, view, ◌∙◌}
use Rattle.yaml_loader.proofs.Seen.{pairs_are}
use Rattle.yaml_loader.proofs.marked_node.Marked.pairs.Goals as goal

pub returns-in-Hash : goal.returns-in-Hash
returns-in-Hash c =
    let n = c.args.self.now in
    (λ i. Some (pairs_beside (c.iter.ensures.pairs i) (pairs_shown n.table.now (c.iter.ensures.pairs i) (c.parts.ensures i)))) ∙ pairs_are n.table.now n.mark.now (view n.tree.now) c.in-Hash.pairs (ap view c.in-Hash.is)
