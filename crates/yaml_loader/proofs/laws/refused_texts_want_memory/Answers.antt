use Rattle.yaml_loader.proofs.AnyText as any_text
use Rattle.yaml_loader.proofs.laws.refused_texts_want_memory.Goals as goal

pub returns : goal.returns
returns c = any_text.refused_texts_want_memory
