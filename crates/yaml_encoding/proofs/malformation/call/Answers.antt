use Rattle.yaml_encoding.proofs.Common.{refl}
use Rattle.yaml_encoding.proofs.MalformationLemmas.{broke, stopped_by}
use Rattle.yaml_encoding.proofs.malformation.call.Goals as goal

pub returns-in-Break : goal.returns-in-Break
returns-in-Break g c =
    stopped_by c.broken.result c.args.malformation.position _ _ _ _ _ (broke _ _ c.args.input _ _ _ _ _ c.in-Break.message c.function.ensures.0 refl refl c.in-Break.is) c.broken.ensures
