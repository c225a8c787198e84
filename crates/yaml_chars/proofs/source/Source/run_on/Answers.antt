use Rattle.yaml_chars.proofs.Common.{sym, ◌∙◌}
use Rattle.yaml_chars.proofs.RunLemmas.{GoesOn-more, GoesOn-over}
use Rattle.yaml_chars.proofs.source.Source.run_on.Goals as goal

pub returns-then-stops : goal.returns-then-stops
returns-then-stops g c = rw c.ended.ensures (GoesOn-over c.run.invariant c.next-after.ensures
    (λ h. sym c.stops.ensures.value ∙ c.if-stops.true))

pub run-preserved : goal.run-preserved
run-preserved g c =
    rw c.in-Ok.ensures.ok (GoesOn-more c.run.invariant c.next-after.ensures (sym c.stops.ensures.value ∙ c.if-stops.false)
    (c.stops.ensures.some c.if-stops.false))

pub returns-in-Err : goal.returns-in-Err
returns-in-Err g c = rw (c.ended-in-Err.ensures, c.in-Err.ensures.err) (GoesOn-over c.run.invariant c.next-after.ensures (λ h. cc))
