use Rattle.defs_layout.proofs.Soundness.{json_text_sound}
use Rattle.defs_layout.proofs.laws.json_trees_are_sound.Goals as goal

pub returns : goal.returns
returns c = json_text_sound
