use Rattle.yaml_loader.proofs.Common.{[], leaf_mark, unwrap_or, ◌++◌, ◌∙◌, ◌∷◌, ◌≡◌}
use Rattle.yaml_loader.proofs.MarkedSteps.{document_holds}
use Rattle.yaml_loader.proofs.marking.Marking.end_document.Goals as goal

pub returns : goal.returns
returns c =
    let old = c.args.self.now in
    let p = c.args.position in
    let root : c.unwrap_or-root.result ≡ unwrap_or old.root (leaf_mark p) = c.unwrap_or-root.ensures ∙ (λ i. unwrap_or (c.take.ensures.value i) (c.leaf.ensures i)) in
    let documents : c.push_reserved.new.self.items ≡ old.documents.items ++ unwrap_or old.root (leaf_mark p) ∷ [] =
    c.push_reserved.ensures.items ∙ (λ i. (c.in_ok-reserve.ensures {u = tt}).items i ++ root i ∷ []) in
    λ x h. rw (documents, c.take.ensures.after) (document_holds x p h)
