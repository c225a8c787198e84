use Rattle.yaml_parser.proofs.Answering.{reads, is_error, fails, ap, Ev, Goal, if◌then◌else◌, marked_begins, None, Some, directed_outside, directives_refuses, directives_begin, DocumentStartToken, faulted_as, goes_apart, kind_of, not_as, arith, push_after, refl, refuses_for, says_directed, wrote, document_turns}
use Rattle.yaml_parser.proofs.reader.Reader.directed_document.Goals as goal

pub returns-in_err-next-clause-answers : goal.returns-in_err-next-clause-answers
returns-in_err-next-clause-answers g c = reads (λ names given h. fails c.directives.new.self given c.from_residual.result c.directives.new.slot (is_error _ _ c.from_residual.ensures.1) (c.in_err-next.ensures.err names given (directives_begin c.args.kind c.requires.looks c.requires.directive refl refl c.start_document.ensures.keep c.start_document.ensures.named c.start_document.ensures.own h)))

pub returns-in_ok-push-in-DocumentStart-clause-answers : goal.returns-in_ok-push-in-DocumentStart-clause-answers
returns-in_ok-push-in-DocumentStart-clause-answers g c = reads (λ names given h.
    let d = c.in_ok-next.ensures.at names given (directives_begin c.args.kind c.requires.looks c.requires.directive refl refl c.start_document.ensures.keep c.start_document.ensures.named c.start_document.ensures.own h) in
    wrote _ given c.write.ensures (marked_begins _ (Goal.directives d.0) d.0 c.in_ok-next.ensures.peeked.0 c.in-DocumentStart.is c.skip-mark.ensures.mark refl refl refl (push_after c.skip-mark.ensures.took c.in_ok-push-in-DocumentStart.ensures.stayed) ((document_turns _).directives_start d.0) refl d.1 d.1.code (ap (λ b. if b then Some Ev.document_start else None) d.1.pending)))

pub returns-in_default-clause-answers : goal.returns-in_default-clause-answers
returns-in_default-clause-answers g c = reads (λ names given h.
    let d = c.in_ok-next.ensures.at names given (directives_begin c.args.kind c.requires.looks c.requires.directive refl refl c.start_document.ensures.keep c.start_document.ensures.named c.start_document.ensures.own h) in
    faulted_as _ given c.halt.ensures (refuses_for DocumentStartToken refl refl c.mark.ensures c.in_ok-next.ensures.peeked.0 (λ t e. directives_refuses _ d.0 t (not_as c.in_ok-next.ensures.peeked.1 e) (not_as c.in_ok-next.ensures.peeked.2 e) (not_as c.in_default.not-DocumentStart e))
    (λ a t e. (directed_outside a, λ same. absurd (not_as c.in_default.not-DocumentStart e (ap kind_of same)))) (λ a no. goes_apart (Goal.directives d.0) refl (λ ss f. (refl, refl, refl)) a) (says_directed d.0 (grind arith)) d.1))
