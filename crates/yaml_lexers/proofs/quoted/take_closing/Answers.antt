use Rattle.yaml_lexers.proofs.Common.{ap, closing, Reads-then, sym, ◌∙◌, ◌∷◌}
use Rattle.yaml_lexers.proofs.quoted.take_closing.Goals as goal

pub returns-clause-reads : goal.returns-clause-reads
returns-clause-reads g c =
    let was = c.look_ch.ensures.position in
    Reads-then _ _ _ c.look_ch.ensures.reads c.skip.ensures.reads (λ a b d look step t.
    rw (c.skip.ensures.state, was.at, was.line, was.col, c.if-quote.false)
    (closing _ _ a d _ t (sym look.0 ∙ step ∙ ap (λ x. x ∷ d) (sym look.1 ∙ c.if-look_ch-ne34.false))))
