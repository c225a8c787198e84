use Rattle.proof_row.proofs.Pieces.{pieces_seen_alike}
use Rattle.proof_row.proofs.laws.pieces_seen_alike_have_one_end.Goals as goal

pub returns : goal.returns
returns c = pieces_seen_alike
