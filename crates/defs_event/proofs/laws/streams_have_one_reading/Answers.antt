use Rattle.defs_event.proofs.OneReading.{one_list}
use Rattle.defs_event.proofs.laws.streams_have_one_reading.Goals as goal

pub returns : goal.returns
returns c = one_list
