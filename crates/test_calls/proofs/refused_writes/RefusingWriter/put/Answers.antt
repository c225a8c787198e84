-- Nothing is said of this writer, so that each call gives and leaves what it says.
use Rattle.yaml_emitter.proofs.WritingLemmas.{wrote_one, stopped_one}
use Rattle.test_calls.proofs.refused_writes.RefusingWriter.put.Goals as goal

pub returns : goal.returns
returns c = record { ok = λ is. wrote_one _ _ _ _ tt; err = λ is. stopped_one _ _ _ _ _ tt }
