use Rattle.yaml_lexers.proofs.Common.{ap, at, plain_from, plain_run, Reads-then, sym, ◌∙◌, ◌∷◌}
use Rattle.model_scanner.specs.Plain.{inside}
use Rattle.yaml_lexers.proofs.plain.begin_word.Goals as goal

pub returns-clause-ok : goal.returns-clause-ok
returns-clause-ok g c =
    let goes = sym c.stops.ensures.value ∙ c.if-stops.false in
    let was = c.look_ch-c.ensures.position in
    Reads-then _ _ _ c.look_ch-c.ensures.reads c.skip.ensures.reads (λ a b d look s start.
    rw (c.skip.ensures.state, c.in_ok-push.ensures, was.at, was.line, was.col)
    (ap (λ x. plain_from c.args.context start x (at inside c.args.window.now c.args.scalar.now)) (sym look.0 ∙ s ∙ ap (λ x. x ∷ d) (sym look.1))
    ∙ plain_run c.args.context start c.look_ch-c.result d _ _ goes))
