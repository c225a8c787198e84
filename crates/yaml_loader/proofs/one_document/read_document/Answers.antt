use Rattle.yaml_loader.proofs.Common.{arith, err_from_is_err_and}
use Rattle.yaml_loader.proofs.DocumentReading.{read_so, stops_by_key, stops_so}
use Rattle.yaml_loader.proofs.one_document.read_document.Goals as goal

pub returns-in_err-take_document-clause-reads : goal.returns-in_err-take_document-clause-reads
returns-in_err-take_document-clause-reads g c = λ h.
    let p = err_from_is_err_and c.from_residual.result c.from_residual.ensures.1 in
    rw (p.1, p.2) (stops_so c.default-loader.result c.take_document.new.receiver h c.default-loader.ensures.empty c.default-loader.ensures.no_fault c.in_err-take_document.field-0.0 (c.in_err-take_document.ensures.takes h.going))

pub returns-in_err-documents-clause-reads : goal.returns-in_err-documents-clause-reads
returns-in_err-documents-clause-reads g c = λ h.
    let p = err_from_is_err_and c.from_residual-in_err-documents.result c.from_residual-in_err-documents.ensures.1 in
    rw (p.1, p.2) (stops_by_key h c.default-loader.ensures.empty c.default-loader.ensures.no_fault c.in_err-documents.field-0.0 (c.in_ok-take_document.ensures.takes h.going) (c.in_err-documents.ensures {u = tt}))

pub returns-clause-reads : goal.returns-clause-reads
returns-clause-reads g c = λ h.
    read_so h c.default-loader.ensures.empty c.default-loader.ensures.no_fault c.in_ok-documents.documents.items c.pop.new.self.items c.pop.result
    (c.in_ok-take_document.ensures.takes h.going) (c.in_ok-documents.ensures {u = tt}) c.pop.ensures.items (λ l. c.pop.ensures.variant.1 (omega (arith, l, c.in_ok-documents.documents.ok)))
