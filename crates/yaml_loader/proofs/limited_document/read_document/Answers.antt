use Rattle.yaml_loader.proofs.LimitedCommon.{arith, err_from_is_err_and, HoldsBack, stops_by_parser, subst}
use Rattle.yaml_loader.proofs.LimitedLemmas.{fresh}
use Rattle.yaml_loader.proofs.LimitedCalls.{read_within, stops_within, refuses_within, holds_within}
use Rattle.yaml_loader.proofs.limited_document.read_document.Goals as goal

pub returns-in-Some-clause-reads : goal.returns-in-Some-clause-reads
returns-in-Some-clause-reads g c = λ h.
    let takes = c.in-Err-Parser.ensures.takes h.going in
    let holds = subst (λ b. HoldsBack c.args.limits b c.in-Some.mark) c.backlog.ensures c.in-Some.ensures in
    holds_within c.args.limits c.in-Err-Parser.fault c.in-Some.mark (rw c.in-Err-Parser.field-0-is at takes) holds

pub returns-in-Err-Parser-clause-reads : goal.returns-in-Err-Parser-clause-reads
returns-in-Err-Parser-clause-reads g c = λ h.
    let takes = c.in-Err-Parser.ensures.takes h.going in
    stops_by_parser c.in-Err-Parser.fault h (rw c.in-Err-Parser.field-0-is at takes)

pub returns-in-Err-Receiver-clause-reads : goal.returns-in-Err-Receiver-clause-reads
returns-in-Err-Receiver-clause-reads g c = λ h.
    let guard = c.new-guard.ensures in
    let new = fresh c.default-loader.ensures.empty c.default-loader.ensures.no_fault guard.receiver guard.counts guard.limits guard.goes_on in
    let takes = c.in-Err-Receiver.ensures.takes h.going in
    rw c.error.ensures (refuses_within h new c.in-Err-Receiver.fault (rw c.in-Err-Receiver.field-0-is at takes))

pub returns-in_err-documents-clause-reads : goal.returns-in_err-documents-clause-reads
returns-in_err-documents-clause-reads g c = λ h.
    let p = err_from_is_err_and c.from_residual.result c.from_residual.ensures.1 in
    let guard = c.new-guard.ensures in
    let new = fresh c.default-loader.ensures.empty c.default-loader.ensures.no_fault guard.receiver guard.counts guard.limits guard.goes_on in
    let stops = stops_within h new c.in_err-documents.field-0.0 (c.in-Ok.ensures.takes h.going) (c.in_err-documents.ensures {u = tt}) in
    rw (p.1, p.2) stops

pub returns-clause-reads : goal.returns-clause-reads
returns-clause-reads g c = λ h.
    let guard = c.new-guard.ensures in
    let new = fresh c.default-loader.ensures.empty c.default-loader.ensures.no_fault guard.receiver guard.counts guard.limits guard.goes_on in
    read_within h new c.in_ok-documents.documents.items c.pop.new.self.items c.pop.result
    (c.in-Ok.ensures.takes h.going) (c.in_ok-documents.ensures {u = tt}) c.pop.ensures.items (λ l. c.pop.ensures.variant.1 (omega (arith, l, c.in_ok-documents.documents.ok)))
