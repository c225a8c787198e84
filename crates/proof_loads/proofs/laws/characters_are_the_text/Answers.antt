use Rattle.proof_loads.proofs.Spelled.{characters_are_the_text}
use Rattle.proof_loads.proofs.laws.characters_are_the_text.Goals as goal

pub returns : goal.returns
returns g c = characters_are_the_text g.T.Iterator.next_gives
