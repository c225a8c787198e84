use Rattle.proof_scanner.proofs.Refusals.Refusals.{refused_texts_are_stuck}
use Rattle.proof_scanner.proofs.laws.refused_texts_are_stuck.Goals as goal

pub returns : goal.returns
returns c = refused_texts_are_stuck
