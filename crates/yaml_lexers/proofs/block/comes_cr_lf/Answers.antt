use Rattle.yaml_lexers.proofs.WindowLemmas.{has_kept}
use Rattle.yaml_lexers.proofs.block.comes_cr_lf.Goals as goal

pub returns-clause-has : goal.returns-clause-has
returns-clause-has g c = has_kept _ _ c.lookahead.ensures.reads c.lookahead.ensures.position.at
