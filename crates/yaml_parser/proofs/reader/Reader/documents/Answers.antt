use Rattle.yaml_parser.proofs.Answering.{reads, bare_begins, documents_bare, documents_explicit, not_as, refl, stay, stay_push, stays, wrote, arith}
use Rattle.model_parser.specs.declared.context.NodeContext.TheVariants as context
use Rattle.yaml_parser.proofs.reader.Reader.documents.Goals as goal

pub returns-in-StreamEnd-clause-answers : goal.returns-in-StreamEnd-clause-answers
returns-in-StreamEnd-clause-answers g c = reads (λ names given h.
    c.end_or_document.ensures.answers.so names given (stays c.in_ok-next.ensures.peeked.0 stay
    (λ t e. documents_explicit _ t (grind arith) (not_as c.in_ok-next.ensures.peeked.1 e) (grind arith))
    refl tt (λ o. tt) refl (c.in_ok-next.ensures.at names given h)))

pub returns-in-VersionDirective-clause-answers : goal.returns-in-VersionDirective-clause-answers
returns-in-VersionDirective-clause-answers g c = reads (λ names given h. c.directed_document.ensures.answers.so names given (c.in_ok-next.ensures.at names given h))

pub returns-in_ok-push-in_default-2-clause-answers : goal.returns-in_ok-push-in_default-2-clause-answers
returns-in_ok-push-in_default-2-clause-answers g c = reads (λ names given h.
    let a = c.in_ok-next.ensures.at names given h in
    wrote _ given c.write.ensures (bare_begins _ c.in_ok-next.ensures.peeked.0 c.mark.ensures
    (λ t e. documents_bare _ t
    (grind arith)
    (grind arith))
    refl c.start_document.ensures.keep c.start_document.ensures.named (stay_push (stay_push stay c.in_ok-push-in_default.ensures.stayed) c.in_ok-push-in_default-2.ensures.stayed) a))
