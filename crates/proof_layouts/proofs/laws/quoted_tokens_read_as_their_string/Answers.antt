use Rattle.proof_layouts.proofs.Quoted.{quoted_read_as_their_string}
use Rattle.proof_layouts.proofs.laws.quoted_tokens_read_as_their_string.Goals as goal

pub returns : goal.returns
returns c = quoted_read_as_their_string
