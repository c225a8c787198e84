use Rattle.yaml_lexers.proofs.EscapeLemmas.{backslash_read}
use Rattle.yaml_lexers.proofs.escape.skip_backslash.Goals as goal

pub returns-clause-reads : goal.returns-clause-reads
returns-clause-reads g c =
    backslash_read _ _ _ _ c.requires.here.here c.peek.ensures.sees c.is_break-breaks.ensures.value c.skip.ensures.state c.skip.ensures.reads
