use Rattle.yaml_loader.proofs.Common.{ev_of, false, is_end, parsed, refl, sym, ◌∙◌, ◌≡◌}
use Rattle.yaml_loader.proofs.DocumentSteps.{is_not_end, begins, goes_on, takes_all, faults, refuses}
use Rattle.yaml_loader.proofs.one_document.take_document.Goals as goal

pub events-init : goal.events-init
events-init g c = record { goes = begins g.R.MarkedEventReceiver.takes (parsed c.args.parser.now) c.args.receiver.now; start = refl }

pub events-smaller : goal.events-smaller
events-smaller g c = c.in-Ok.ensures.pulls.left (is_not_end (ev_of c.in-Ok.next.0) (sym c.is_end-last.ensures ∙ c.if-last.false))

pub events-preserved : goal.events-preserved
events-preserved g c =
    let last : is_end (ev_of c.in-Ok.next.0) ≡ false = sym c.is_end-last.ensures ∙ c.if-last.false in
    record { goes = λ h. goes_on (c.events.invariant.goes h) c.in-Ok.ensures.pulls last c.in_default.ensures; start = cc }

pub returns-then-last-clause-takes : goal.returns-then-last-clause-takes
returns-then-last-clause-takes g c = λ h.
    takes_all (c.events.invariant.goes h) c.in-Ok.ensures.pulls (sym c.is_end-last.ensures ∙ c.if-last.true) c.in_default.ensures

pub returns-in-Err-clause-takes : goal.returns-in-Err-clause-takes
returns-in-Err-clause-takes g c = λ h. faults c.in-Err.fault (c.events.invariant.goes h) c.in-Err.ensures.pulls

pub returns-in-Err-on_event-clause-takes : goal.returns-in-Err-on_event-clause-takes
returns-in-Err-on_event-clause-takes g c = λ h. refuses (c.events.invariant.goes h) c.in-Ok.ensures.pulls c.in-Err-on_event.ensures
