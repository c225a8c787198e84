use Rattle.yaml_lexers.proofs.Common.{ap, inside, quoted_from, quoted_run, Reads-then, sym, ◌∙◌, ◌∷◌}
use Rattle.yaml_lexers.specs.ShownQuoted.{at}
use Rattle.yaml_lexers.proofs.quoted.begin_word.Goals as goal

pub returns-clause-ok : goal.returns-clause-ok
returns-clause-ok g c =
    let goes = sym c.stops.ensures.value ∙ c.if-stops.false in
    let was = c.look_ch-c.ensures.position in
    Reads-then _ _ _ c.look_ch-c.ensures.reads c.skip.ensures.reads (λ a b d look s.
    rw (c.skip.ensures.state, c.in_ok-push.ensures, was.at, was.line, was.col)
    (ap (λ x. quoted_from c.args.quote.now.single c.args.quote.now.context c.args.quote.now.start x (at inside c.args.window.now c.args.scalar.now)) (sym look.0 ∙ s ∙ ap (λ x. x ∷ d) (sym look.1))
    ∙ quoted_run _ _ _ c.look_ch-c.result d _ _ (rw c.quote_of.ensures.value at goes)))
