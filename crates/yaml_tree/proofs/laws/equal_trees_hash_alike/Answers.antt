use Rattle.yaml_tree.proofs.Common.{ap, tree_eq_decides, tree_feed}
use Rattle.yaml_tree.proofs.laws.equal_trees_hash_alike.Goals as goal

pub returns : goal.returns
returns c = λ t u e. ap tree_feed ((tree_eq_decides t u).0 e)
