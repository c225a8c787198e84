use Rattle.proof_scanner.proofs.Sound.FirstTokens.{run_is_where}
use Rattle.proof_scanner.proofs.laws.positions_are_in_the_text.Goals as goal

pub returns : goal.returns
returns c = λ text last nul run. run_is_where text last nul run
