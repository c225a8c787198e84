use Rattle.yaml_lexers.proofs.Common.{Reads-then}
use Rattle.yaml_lexers.proofs.block.take_known.Goals as goal

pub returns-clause-ok : goal.returns-clause-ok
returns-clause-ok g c = Reads-then _ _ _ c.in_ok-take_words.ensures.ok c.lookahead.ensures.reads (λ a b d words same.
    rw (same, c.lookahead.ensures.position.at, c.lookahead.ensures.position.line, c.lookahead.ensures.position.col) words)
