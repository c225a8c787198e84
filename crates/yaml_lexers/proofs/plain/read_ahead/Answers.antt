use Rattle.yaml_lexers.proofs.Common.{plain_run, Reads-then, ◌∙◌}
use Rattle.yaml_lexers.proofs.plain.read_ahead.Goals as goal

pub few-preserved : goal.few-preserved
few-preserved g c =
    let on = c.in-Some.ensures.on in
    Reads-then _ _ _ c.few.invariant c.in-Some.ensures.taken.1 (λ a b d e f start. e start ∙ (rw (f, on.at, on.line, on.col, c.in_ok-push.ensures) (plain_run _ start _ d _ _ c.in-Some.ensures.taken.0)))
