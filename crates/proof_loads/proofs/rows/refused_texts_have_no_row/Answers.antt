use Rattle.proof_loads.proofs.Common.{not_refused, texts_with_a_row_are_read}
use Rattle.proof_loads.proofs.RowTexts.{without_nul}
use Rattle.proof_loads.proofs.rows.refused_texts_have_no_row.Goals as goal

pub returns : goal.returns
returns c text f tokens without refused row = not_refused text tokens f (texts_with_a_row_are_read text tokens (without_nul text without) row) refused
