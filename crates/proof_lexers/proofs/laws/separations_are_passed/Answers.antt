use Rattle.proof_lexers.proofs.Separation.Separations.{separations_are_passed}
use Rattle.proof_lexers.proofs.laws.separations_are_passed.Goals as goal

pub returns : goal.returns
returns c = separations_are_passed
