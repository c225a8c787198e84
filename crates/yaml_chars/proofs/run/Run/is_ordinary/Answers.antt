use Rattle.yaml_chars.proofs.Common.{arith}
use Rattle.yaml_chars.proofs.WordsLemmas.{flow_low}
use Rattle.yaml_chars.proofs.run.Run.is_ordinary.Goals.{then-flow, else-flow}
use Rattle.yaml_chars.proofs.run.Run.is_ordinary.Goals as goal

pub returns-after-flow-clause-ascii : goal.returns-after-flow-clause-ascii
returns-after-flow-clause-ascii c = λ h b. elim c.if-flow.branch [ then-flow w ↦ grind (arith, flow_low) | else-flow w ↦ grind arith ]
