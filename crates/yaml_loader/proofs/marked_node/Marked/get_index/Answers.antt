use Rattle.yaml_loader.proofs.Common.{ap, node_of, option_map, view, ◌∙◌}
use Rattle.yaml_loader.proofs.Seen.{no_node_tree, no_node_mark, node_found}
use Rattle.yaml_loader.proofs.marked_node.Marked.get_index.Goals as goal

pub returns-in_err-tree-in-Array : goal.returns-in_err-tree-in-Array
returns-in_err-tree-in-Array c =
    let n = c.args.self.now in
    ap (option_map node_of) c.from_residual.ensures
    ∙ no_node_tree n.table.now n.mark.now c.args.index (view n.tree.now) c.in-Array.items (ap view c.in-Array.is) (c.in_err-tree-in-Array.ensures {u = tt})

pub returns-in_err-mark-in-Array : goal.returns-in_err-mark-in-Array
returns-in_err-mark-in-Array c =
    let n = c.args.self.now in
    let past = (c.in_err-mark-in-Array.ensures {u = tt}).lookup.3 in
    ap (option_map node_of) c.from_residual-in_err-mark-in-Array.ensures
    ∙ no_node_mark n.table.now n.mark.now c.args.index (view n.tree.now) c.in-Array.items (ap view c.in-Array.is) c.parts.result.now c.parts.ensures past

pub invariant_of-result : goal.invariant_of-result
invariant_of-result c =
    let n = c.args.self.now in
    let a = (c.in_ok-mark-in-Array.ensures {u = tt}).lookup in
    let found = node_found n.table.now n.mark.now c.args.index (view n.tree.now) c.in-Array.items (ap view c.in-Array.is) (view c.in_ok-tree-in-Array.tree.now) c.in_ok-mark-in-Array.mark.now c.parts.result.now
    c.parts.ensures (c.in_ok-tree-in-Array.ensures {u = tt}) a.3.0 a.1 n.fits in
    record { fits = found.0 }

pub returns-in_ok-mark-in-Array : goal.returns-in_ok-mark-in-Array
returns-in_ok-mark-in-Array c =
    let n = c.args.self.now in
    let a = (c.in_ok-mark-in-Array.ensures {u = tt}).lookup in
    (node_found n.table.now n.mark.now c.args.index (view n.tree.now) c.in-Array.items (ap view c.in-Array.is) (view c.in_ok-tree-in-Array.tree.now) c.in_ok-mark-in-Array.mark.now c.parts.result.now
    c.parts.ensures (c.in_ok-tree-in-Array.ensures {u = tt}) a.3.0 a.1 n.fits).1
