use Rattle.yaml_lexers.proofs.WindowLemmas.{has_kept}
use Rattle.yaml_lexers.proofs.plain.read_gap.Goals as goal

pub skip_break-requires-clause-has : goal.skip_break-requires-clause-has
skip_break-requires-clause-has g c = has_kept _ _ c.lookahead.ensures.reads c.lookahead.ensures.position.at (c.look_ch-c.ensures.has (c.is_break.ensures.some c.if-is_break.true))
