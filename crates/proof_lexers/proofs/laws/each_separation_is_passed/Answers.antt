use Rattle.proof_lexers.proofs.Separation.EachSeparation.{each_separation_is_passed}
use Rattle.proof_lexers.proofs.laws.each_separation_is_passed.Goals as goal

pub returns : goal.returns
returns c = each_separation_is_passed
