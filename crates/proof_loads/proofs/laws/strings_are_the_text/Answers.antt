use Rattle.proof_loads.proofs.Spelled.{strings_are_the_text}
use Rattle.proof_loads.proofs.laws.strings_are_the_text.Goals as goal

pub returns : goal.returns
returns c = strings_are_the_text
