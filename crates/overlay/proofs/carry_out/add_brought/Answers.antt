use Rattle.overlay.proofs.Common.{list_of_pairs}
use Rattle.overlay.proofs.carry_out.add_brought.Goals as goal

pub returns-in-Hash : goal.returns-in-Hash
returns-in-Hash c = rw (c.in-Hash.is, list_of_pairs c.in-Hash.mapping) c.add_new_pairs.ensures
