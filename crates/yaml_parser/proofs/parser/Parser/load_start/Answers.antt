use Rattle.yaml_parser.proofs.Answering.{begins, ends, error_is, false, faults, goes_on, refl, sym, true, ◌∙◌}
use Rattle.yaml_parser.proofs.LoadSteps.{refuses}
use Rattle.defs_event.specs.Push as run
use Rattle.yaml_parser.proofs.parser.Parser.load_start.Goals as goal

pub returns-then-has_started-clause-starts : goal.returns-then-has_started-clause-starts
returns-then-has_started-clause-starts g c = λ multi. begins run.between true (sym c.has_started.ensures ∙ c.if-has_started.true) refl

pub returns-in_err-event-clause-starts : goal.returns-in_err-event-clause-starts
returns-in_err-event-clause-starts g c = λ multi.
    rw (error_is c.from_residual.result _ c.from_residual.ensures.1)
    (faults (begins run.before_stream false (sym c.has_started.ensures ∙ c.if-has_started.false) refl) refl c.in_err-event.ensures.pulls)

pub returns-in_err-on_event-clause-starts : goal.returns-in_err-on_event-clause-starts
returns-in_err-on_event-clause-starts g c = λ multi.
    rw (error_is c.from_residual-in_err-on_event.result _ c.from_residual-in_err-on_event.ensures.1)
    (refuses {l = ends run.unfinished 0} (begins run.before_stream false (sym c.has_started.ensures ∙ c.if-has_started.false) refl) refl refl refl c.in_ok-event.ensures.pulls c.in_err-on_event.ensures)

pub returns-clause-starts : goal.returns-clause-starts
returns-clause-starts g c = λ multi.
    goes_on {on' = run.load_from run.between multi} (begins run.before_stream false (sym c.has_started.ensures ∙ c.if-has_started.false) refl) (λ rest. refl) c.in_ok-event.ensures.pulls c.in_ok-on_event.ensures
