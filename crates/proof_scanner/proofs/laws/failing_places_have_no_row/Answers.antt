use Rattle.proof_scanner.proofs.Refusals.NoRows.{failing_places_have_no_row}
use Rattle.proof_scanner.proofs.laws.failing_places_have_no_row.Goals as goal

pub returns : goal.returns
returns c = failing_places_have_no_row
