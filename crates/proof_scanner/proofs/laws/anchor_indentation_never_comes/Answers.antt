use Rattle.proof_scanner.proofs.Refusals.Refusals.{anchor_indentation_never_comes}
use Rattle.proof_scanner.proofs.laws.anchor_indentation_never_comes.Goals as goal

pub returns : goal.returns
returns c = anchor_indentation_never_comes
