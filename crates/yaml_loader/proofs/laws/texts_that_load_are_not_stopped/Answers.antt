use Rattle.yaml_loader.proofs.DocumentTexts.{only_memory_is_wanted}
use Rattle.yaml_loader.proofs.laws.texts_that_load_are_not_stopped.Goals as goal

pub returns : goal.returns
returns c = only_memory_is_wanted
