use Rattle.yaml_lexers.proofs.WindowLemmas.{has_kept}
use Rattle.yaml_lexers.proofs.space.skip_linebreak.Goals as goal

pub skip_break-requires-else-at_cr_lf-clause-has : goal.skip_break-requires-else-at_cr_lf-clause-has
skip_break-requires-else-at_cr_lf-clause-has g c = has_kept _ _ c.lookahead.ensures.reads c.lookahead.ensures.position.at c.requires
