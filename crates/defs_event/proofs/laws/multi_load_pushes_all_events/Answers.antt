use Rattle.defs_event.proofs.Common.{ℕ}
use Rattle.defs_event.proofs.AllPushed.{all_pushed}
use Rattle.defs_event.proofs.laws.multi_load_pushes_all_events.Goals as goal

pub returns : goal.returns
returns c = all_pushed ℕ
