use Rattle.proof_lexers.proofs.Separation.WhiteSpace.{white_space_is_passed}
use Rattle.proof_lexers.proofs.laws.white_space_is_passed.Goals as goal

pub returns : goal.returns
returns c = white_space_is_passed
