use Rattle.proof_row.proofs.TagEnds.{tags}
use Rattle.proof_row.proofs.laws.tags_have_one_end.Goals as goal

pub returns : goal.returns
returns c = tags
