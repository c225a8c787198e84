use Rattle.yaml_emitter.proofs.Answering.{on_err, refl, stopped_for}
use Rattle.yaml_emitter.proofs.emitter.YamlEmitter.dump.Goals as goal

pub returns-in_err-write_document-clause-begun : goal.returns-in_err-write_document-clause-begun
returns-in_err-write_document-clause-begun g c = on_err _ (g.met.W.Writer.stopped _ _ _ (stopped_for (λ _. tt) (c.in_err-write_document.ensures.text.err refl)))

pub returns-clause-written : goal.returns-clause-written
returns-clause-written g c = g.met.W.Writer.wrote _ _ _ (c.in_ok-write_document.ensures.text.ok refl)
