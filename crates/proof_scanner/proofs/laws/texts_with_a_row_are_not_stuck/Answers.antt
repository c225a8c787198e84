use Rattle.proof_scanner.proofs.Refusals.KeysThatWait.{texts_with_a_row_are_not_stuck}
use Rattle.proof_scanner.proofs.laws.texts_with_a_row_are_not_stuck.Goals as goal

pub returns : goal.returns
returns c = texts_with_a_row_are_not_stuck
