use Rattle.yaml_emitter.proofs.Answering.{arith, document_text, refl, stopped_first, view, writes_as, writes_err, writes_for, writes_late}
use Rattle.yaml_emitter.proofs.node.write_document.Goals as goal

pub returns-in_err-put_ascii-clause-text : goal.returns-in_err-put_ascii-clause-text
returns-in_err-put_ascii-clause-text g c =
    writes_as (document_text c.args.settings.now.compact c.args.settings.now.multiline (view c.args.root.now))
    (writes_err c.from_residual.ensures.0 (stopped_first _ (c.in_err-put_ascii.ensures.err refl)))

pub returns-clause-text : goal.returns-clause-text
returns-clause-text g c = writes_as (document_text c.args.settings.now.compact c.args.settings.now.multiline (view c.args.root.now)) (writes_late (c.in_ok-put_ascii.ensures.ok refl) (writes_for (λ b. omega (arith, b)) c.write_node.ensures.text))
