use Rattle.defs_event.proofs.StreamNests.{stream_nests}
use Rattle.defs_event.proofs.laws.stream_events_are_nested.Goals as goal

pub returns : goal.returns
returns c = stream_nests
