use Rattle.yaml_loader.proofs.Common.{all_shown, ap, beside, items_view, Some, view, ◌∙◌, ◌≡◌}
use Rattle.yaml_loader.proofs.Seen.{items_are}
use Rattle.yaml_loader.proofs.marked_node.Marked.items.Goals as goal

pub returns-in-Array : goal.returns-in-Array
returns-in-Array c =
    let n = c.args.self.now in
    let items : items_view c.as_slice.result.now ≡ c.in-Array.items = ap items_view c.as_slice.ensures.value ∙ c.deref.ensures in
    (λ i. Some (beside (items i) (all_shown n.table.now (items i) (c.parts.ensures i)))) ∙ items_are n.table.now n.mark.now (view n.tree.now) c.in-Array.items (ap view c.in-Array.is)
