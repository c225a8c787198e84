use Rattle.defs_tree.proofs.DigitsLaws.{least_exponent}
use Rattle.defs_tree.proofs.laws.digits_are_least.Goals as goal

pub returns : goal.returns
returns c = least_exponent
