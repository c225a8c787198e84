use Rattle.defs_tree.proofs.GrammarLaws.{cut_from, cut_to}
use Rattle.defs_tree.proofs.laws.followed_by_is_a_cut.Goals as goal

pub returns : goal.returns
returns c = λ f g t. (cut_from f g t, cut_to f g t)
