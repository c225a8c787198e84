use Rattle.proof_loads.proofs.Texts.{only_memory_is_wanted}
use Rattle.proof_loads.proofs.laws.read_texts_have_no_fault_but_memory.Goals as goal

pub returns : goal.returns
returns c = only_memory_is_wanted
