use Rattle.proof_loads.proofs.TokensInTurn.{layouts_in_turn_are_not_refused}
use Rattle.proof_loads.proofs.laws.layouts_in_turn_are_not_refused.Goals as goal

pub returns : goal.returns
returns c = layouts_in_turn_are_not_refused
