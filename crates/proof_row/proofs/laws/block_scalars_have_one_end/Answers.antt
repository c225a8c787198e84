use Rattle.proof_row.proofs.Blocks.{blocks}
use Rattle.proof_row.proofs.laws.block_scalars_have_one_end.Goals as goal

pub returns : goal.returns
returns c = blocks
