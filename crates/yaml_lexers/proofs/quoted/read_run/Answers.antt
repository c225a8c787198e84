use Rattle.yaml_lexers.proofs.Common.{quoted_run, Reads-then, ◌∙◌}
use Rattle.yaml_lexers.proofs.quoted.read_run.Goals as goal

pub few-preserved : goal.few-preserved
few-preserved g c =
    let on = c.in-Some.ensures.on in
    Reads-then _ _ _ c.few.invariant c.in-Some.ensures.taken.1 (λ a b d e f. e ∙ (rw (f, on.at, on.line, on.col, c.in_ok-push.ensures) (quoted_run _ _ _ _ d _ _ (rw c.quote_of.ensures.value at c.in-Some.ensures.taken.0))))
