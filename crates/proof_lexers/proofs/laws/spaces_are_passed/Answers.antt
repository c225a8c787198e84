use Rattle.proof_lexers.proofs.Separation.Spaces.{spaces_are_passed}
use Rattle.proof_lexers.proofs.laws.spaces_are_passed.Goals as goal

pub returns : goal.returns
returns c = spaces_are_passed
