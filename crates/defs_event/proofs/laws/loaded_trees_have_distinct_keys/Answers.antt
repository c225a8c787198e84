use Rattle.defs_event.proofs.Kept.{loaded_kept, distinct_kept}
use Rattle.defs_event.proofs.laws.loaded_trees_have_distinct_keys.Goals as goal

pub returns : goal.returns
returns c = loaded_kept _ distinct_kept
