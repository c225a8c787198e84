use Rattle.yaml_chars.proofs.Common.{sym, ◌∙◌}
use Rattle.yaml_chars.proofs.RunLemmas.{GoesOn-more, GoesOn-over, GoesOver-ended}
use Rattle.yaml_chars.proofs.source.Source.word_on.Goals as goal

pub returns-then-has_ended : goal.returns-then-has_ended
returns-then-has_ended g c =
    rw c.word_ended.ensures (GoesOver-ended _ _ _ (sym c.has_ended.ensures.value ∙ c.if-has_ended.true)
    (c.has_ended.ensures.none c.if-has_ended.true))

pub returns-then-stops : goal.returns-then-stops
returns-then-stops g c =
    rw c.word_ended-then-stops.ensures (GoesOn-over c.run.invariant.goes c.pull-after.ensures
    (λ h. sym c.stops.ensures.value ∙ c.if-stops.true))

pub run-preserved : goal.run-preserved
run-preserved g c = record {
  goes =
      rw (c.in_default.ensures.ok) (GoesOn-more c.run.invariant.goes c.pull-after.ensures (sym c.stops.ensures.value ∙ c.if-stops.false)
      (c.stops.ensures.some c.if-stops.false));
  going = let more = c.pull-after.ensures.char (c.stops.ensures.some c.if-stops.false) in more.2;
}

pub returns-in-Err : goal.returns-in-Err
returns-in-Err g c = rw (c.word_ended-in-Err.ensures, c.in-Err.ensures.err)
    (GoesOn-over c.run.invariant.goes c.pull-after.ensures (λ h. cc))
