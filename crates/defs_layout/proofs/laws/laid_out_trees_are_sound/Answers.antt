use Rattle.defs_layout.proofs.Soundness.{laid_out_sound}
use Rattle.defs_layout.proofs.laws.laid_out_trees_are_sound.Goals as goal

pub returns : goal.returns
returns c = laid_out_sound
