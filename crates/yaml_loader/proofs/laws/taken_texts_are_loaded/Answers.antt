use Rattle.yaml_loader.proofs.AnyText as any_text
use Rattle.yaml_loader.proofs.laws.taken_texts_are_loaded.Goals as goal

pub returns : goal.returns
returns c = any_text.taken_texts_are_loaded
