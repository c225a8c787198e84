use Rattle.std.proofs.lemmas.Grind.{common_steps}
use Rattle.yaml_encoding.proofs.Common.{arith}
use Rattle.yaml_encoding.proofs.MalformationLemmas.{stopped_without}
use Rattle.yaml_encoding.proofs.malformation.broken.Goals as goal

pub returns-then-is_empty : goal.returns-then-is_empty
returns-then-is_empty c = stopped_without c.stop.result c.args.message _ _ _ (grind (arith, common_steps)) c.stop.ensures
