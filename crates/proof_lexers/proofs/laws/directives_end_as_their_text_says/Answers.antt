use Rattle.proof_lexers.proofs.Directives.Lines.{directives_end}
use Rattle.proof_lexers.proofs.laws.directives_end_as_their_text_says.Goals as goal

pub returns : goal.returns
returns c = directives_end
