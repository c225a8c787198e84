use Rattle.proof_lexers.proofs.Blocks.Headers.{headers_end}
use Rattle.proof_lexers.proofs.laws.headers_end_as_their_line_says.Goals as goal

pub returns : goal.returns
returns c = headers_end
