use Rattle.proof_lexers.proofs.Properties.Names.{names_end}
use Rattle.proof_lexers.proofs.laws.names_end_as_their_text_says.Goals as goal

pub returns : goal.returns
returns c = names_end
