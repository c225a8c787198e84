use Rattle.yaml_emitter.proofs.FmtLemmas.{took_all}
use Rattle.yaml_emitter.proofs.escape.DoubleQuotedDisplay.fmt.Goals as goal

pub returns-clause-writes : goal.returns-clause-writes
returns-clause-writes g c plain ok = took_all _ _ _ (c.write_double_quoted.ensures.ok ok) plain
