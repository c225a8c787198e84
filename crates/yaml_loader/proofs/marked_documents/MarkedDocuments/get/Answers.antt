use Rattle.yaml_loader.proofs.Common.{ap, marks_of, option_map, refl, ◌∙◌}
use Rattle.yaml_loader.proofs.Seen.{no_document, unmarked_document, found_document}
use Rattle.yaml_loader.proofs.marked_documents.MarkedDocuments.get.Goals as goal

pub returns-in_err-tree-clause-marks : goal.returns-in_err-tree-clause-marks
returns-in_err-tree-clause-marks c =
    let past = (c.in_err-tree.ensures {u = tt}).lookup.3 in
    ap (option_map marks_of) c.from_residual.ensures ∙ no_document c.args.document c.deref.ensures.value refl c.args.self.now.table.items past

pub returns-in_err-mark : goal.returns-in_err-mark
returns-in_err-mark c =
    let a = (c.in_err-mark.ensures {u = tt}).lookup in
    let b = (c.in_ok-tree.ensures {u = tt}).lookup in
    let d = c.args.self.now in
    absurd (unmarked_document c.args.document c.deref.ensures.value c.deref-2.ensures.value d.table.items c.in_ok-tree.tree.now b.3.0 b.1 a.3 d.fits)

pub invariant_of-result : goal.invariant_of-result
invariant_of-result c =
    let a = (c.in_ok-mark.ensures {u = tt}).lookup in
    let b = (c.in_ok-tree.ensures {u = tt}).lookup in
    record { fits = (found_document c.args.document c.deref.ensures.value c.deref-2.ensures.value c.as_slice.ensures.value c.in_ok-tree.tree.now c.in_ok-mark.mark.now b.3.0 b.1 a.3.0 a.1 c.args.self.now.fits).0 }

pub returns : goal.returns
returns c =
    let a = (c.in_ok-mark.ensures {u = tt}).lookup in
    let b = (c.in_ok-tree.ensures {u = tt}).lookup in
    let found = found_document c.args.document c.deref.ensures.value c.deref-2.ensures.value c.as_slice.ensures.value c.in_ok-tree.tree.now c.in_ok-mark.mark.now b.3.0 b.1 a.3.0 a.1 c.args.self.now.fits in
    record { trees = found.2; marks = found.1 }
