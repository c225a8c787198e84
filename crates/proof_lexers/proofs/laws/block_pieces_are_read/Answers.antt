use Rattle.proof_lexers.proofs.Blocks.Ends.{pieces_are_read}
use Rattle.proof_lexers.proofs.laws.block_pieces_are_read.Goals as goal

pub returns : goal.returns
returns c = pieces_are_read
