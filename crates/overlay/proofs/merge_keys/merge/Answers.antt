use Rattle.overlay.proofs.Common.{IsWritable, subst, sym}
use Rattle.overlay.proofs.MergeWritable.{merged_is_writable}
use Rattle.overlay.proofs.merge_keys.merge.Goals as goal

pub returns-in-Ok-clause-writable : goal.returns-in-Ok-clause-writable
returns-in-Ok-clause-writable c = λ h. subst IsWritable (sym c.in-Ok.ensures.tree) (merged_is_writable _ h)
