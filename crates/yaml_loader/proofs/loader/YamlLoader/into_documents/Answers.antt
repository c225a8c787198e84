use Rattle.yaml_loader.proofs.LoadLemmas.{note_given}
use Rattle.yaml_loader.proofs.loader.YamlLoader.into_documents.Goals as goal

pub returns-in-RepeatedKey : goal.returns-in-RepeatedKey
returns-in-RepeatedKey c = note_given c.args.self c.in-RepeatedKey.mark c.in-RepeatedKey.text c.new_string.result c.in-RepeatedKey.is c.new_string.ensures
