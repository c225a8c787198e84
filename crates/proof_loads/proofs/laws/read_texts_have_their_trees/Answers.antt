use Rattle.proof_loads.proofs.Texts.{texts_have_their_trees}
use Rattle.proof_loads.proofs.laws.read_texts_have_their_trees.Goals as goal

pub returns : goal.returns
returns c = texts_have_their_trees
