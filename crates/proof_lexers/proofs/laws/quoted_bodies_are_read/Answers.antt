use Rattle.proof_lexers.proofs.Quoted.Values.{bodies_are_read}
use Rattle.proof_lexers.proofs.laws.quoted_bodies_are_read.Goals as goal

pub returns : goal.returns
returns c = bodies_are_read
