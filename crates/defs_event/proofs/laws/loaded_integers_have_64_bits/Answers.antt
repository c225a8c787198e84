use Rattle.defs_event.proofs.Kept.{loaded_kept, fits_kept}
use Rattle.defs_event.proofs.laws.loaded_integers_have_64_bits.Goals as goal

pub returns : goal.returns
returns c = loaded_kept _ fits_kept
