use Rattle.yaml_parser.proofs.Answering.{[], end_run, ends, ends_well, Err, error_is, faults, goes_on, Loads, misplaced_run, misplaces, next_document, one_document, parsed, refl, start_run, starts_inside, subst, sym, ◌∙◌}
use Rattle.yaml_parser.proofs.LoadSteps.{refuses}
use Rattle.defs_event.specs.Push as run
use Rattle.yaml_parser.proofs.parser.Parser.load.Goals as goal

pub documents-preserved : goal.documents-preserved
documents-preserved g c =
    let start = sym c.is_document_start.ensures ∙ c.if-not-is_document_start.false in
    let st = goes_on c.documents.invariant.0 (λ rest. start_run _ _ c.args.multi rest start) c.in_ok-event.ensures.pulls c.in_ok-on_event-2.ensures in
    (next_document (c.in_ok-load_document.ensures.reads _ _ _ st).0 c.if-not-multi.false, cc)

pub returns-in_err-event-clause-loads : goal.returns-in_err-event-clause-loads
returns-in_err-event-clause-loads g c = rw (error_is c.from_residual-in_err-event.result _ c.from_residual-in_err-event.ensures.1) (faults c.documents.invariant.0 refl c.in_err-event.ensures.pulls)

pub returns-in_err-on_event-clause-loads : goal.returns-in_err-on_event-clause-loads
returns-in_err-on_event-clause-loads g c =
    let end = end_run _ _ c.args.multi [] (sym c.is_stream_end.ensures ∙ c.if-is_stream_end.true) in
    rw (error_is c.from_residual-in_err-on_event.result _ c.from_residual-in_err-on_event.ensures.1) (refuses {l = ends run.well 0} c.documents.invariant.0 end refl refl c.in_ok-event.ensures.pulls c.in_err-on_event.ensures)

pub returns-then-is_stream_end-clause-loads : goal.returns-then-is_stream_end-clause-loads
returns-then-is_stream_end-clause-loads g c =
    ends_well c.documents.invariant.0 (end_run _ _ c.args.multi [] (sym c.is_stream_end.ensures ∙ c.if-is_stream_end.true)) c.in_ok-event.ensures.pulls c.in_ok-on_event.ensures

pub returns-then-not-is_document_start-clause-loads : goal.returns-then-not-is_document_start-clause-loads
returns-then-not-is_document_start-clause-loads g c =
    let none = misplaced_run _ _ c.args.multi [] (sym c.is_stream_end.ensures ∙ c.if-is_stream_end.false) (sym c.is_document_start.ensures ∙ c.if-not-is_document_start.true) in
    subst (λ f. Loads g.R.MarkedEventReceiver.takes c.args.multi (parsed c.args.self.now) c.args.recv.now (Err f) (parsed c.misplace.new.self) c.documents.recv) (sym c.misplace.ensures.fault)
    (rw c.misplace.ensures.kept (misplaces c.documents.invariant.0 none c.in_ok-event.ensures.pulls))

pub returns-in_err-on_event-2-clause-loads : goal.returns-in_err-on_event-2-clause-loads
returns-in_err-on_event-2-clause-loads g c =
    let start = start_run _ _ c.args.multi [] (sym c.is_document_start.ensures ∙ c.if-not-is_document_start.false) in
    rw (error_is c.from_residual-in_err-on_event-2.result _ c.from_residual-in_err-on_event-2.ensures.1) (refuses {l = ends run.unfinished 0} c.documents.invariant.0 start refl refl c.in_ok-event.ensures.pulls c.in_err-on_event-2.ensures)

pub returns-in_err-load_document-clause-loads : goal.returns-in_err-load_document-clause-loads
returns-in_err-load_document-clause-loads g c =
    let start = sym c.is_document_start.ensures ∙ c.if-not-is_document_start.false in
    let st = goes_on c.documents.invariant.0 (λ rest. start_run _ _ c.args.multi rest start) c.in_ok-event.ensures.pulls c.in_ok-on_event-2.ensures in
    rw (error_is c.from_residual-in_err-load_document.result _ c.from_residual-in_err-load_document.ensures.1) (c.in_err-load_document.ensures.reads _ _ _ st)

pub returns-then-not-multi-clause-loads : goal.returns-then-not-multi-clause-loads
returns-then-not-multi-clause-loads g c =
    let start = sym c.is_document_start.ensures ∙ c.if-not-is_document_start.false in
    let st = goes_on c.documents.invariant.0 (λ rest. start_run _ _ c.args.multi rest start) c.in_ok-event.ensures.pulls c.in_ok-on_event-2.ensures in
    let w = c.in_ok-load_document.ensures.reads _ _ _ st in
    one_document w.0 w.1 c.if-not-multi.true

pub load_document-requires : goal.load_document-requires
load_document-requires g c = record {
  inside = starts_inside c.in_ok-event.ensures.pulls (sym c.is_stream_end.ensures ∙ c.if-is_stream_end.false) (sym c.is_document_start.ensures ∙ c.if-not-is_document_start.false);
  none = c.in_ok-event.ensures.pulls.ahead;
  clear = c.in_ok-event.ensures.pulls.sound.fault;
}
