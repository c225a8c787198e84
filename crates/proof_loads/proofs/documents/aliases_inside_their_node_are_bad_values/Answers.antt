use Rattle.proof_loads.proofs.InsideNode.{aliases_are_bad}
use Rattle.proof_loads.proofs.documents.aliases_inside_their_node_are_bad_values.Goals as goal

pub returns : goal.returns
returns c = aliases_are_bad
