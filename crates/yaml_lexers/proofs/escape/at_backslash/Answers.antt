use Rattle.yaml_lexers.proofs.Common.{sym, ◌∙◌}
use Rattle.yaml_lexers.proofs.WindowLemmas.{has_kept}
use Rattle.yaml_lexers.proofs.escape.at_backslash.Goals as goal

pub returns-clause-here : goal.returns-clause-here
returns-clause-here g c _ = record {
  here = record {
    sees = λ w p. let look = c.look_ch.ensures.reads.reads w (c.lookahead.ensures.reads.back w p) in rw (c.lookahead.ensures.reads.reads w p) (sym c.if-look_ch-ne92.false ∙ look.1);
  };
  has = has_kept _ _ c.lookahead.ensures.reads c.lookahead.ensures.position.at (c.look_ch.ensures.has (λ none. let e = sym c.if-look_ch-ne92.false ∙ none in cc));
  ahead = c.lookahead.ensures.ahead;
}
