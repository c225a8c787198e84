-- The row of a text is a cut of it, and so what a text means is read of a cut.
use Rattle.proof_loads.proofs.Common.{clean_up_to_end}
use Rattle.proof_row.proofs.Cuts.{rows_are_cuts}
use Rattle.proof_loads.specs.Cuts.{RowsAreCuts, MeantTreesAreReadOfACut}

pub rows_are_cut : RowsAreCuts
rows_are_cut text tokens nul row = rows_are_cuts text tokens row

pub read_of_a_cut : MeantTreesAreReadOfACut
read_of_a_cut keep_tags text trees m = record { tokens = m.tokens; is_cut = rows_are_cut _ m.tokens (clean_up_to_end text) m.has; read = m.read }
