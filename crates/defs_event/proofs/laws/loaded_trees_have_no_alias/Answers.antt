use Rattle.defs_event.proofs.Kept.{loaded_kept, no_alias_kept}
use Rattle.defs_event.proofs.laws.loaded_trees_have_no_alias.Goals as goal

pub returns : goal.returns
returns c = loaded_kept _ no_alias_kept
