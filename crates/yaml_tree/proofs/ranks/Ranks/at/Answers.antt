use Rattle.yaml_tree.proofs.Common.{joined, place_of_entry, rank_of, sym}
use Rattle.yaml_tree.proofs.Indexed.{number_mapped}
use Rattle.yaml_tree.proofs.ranks.Ranks.at.Goals as goal

pub returns-in-Many : goal.returns-in-Many
returns-in-Many c =
    let bs = c.in-Many.blocks.value in
    rw (c.in-Many.is, c.place.ensures, c.deref.ensures) (sym (number_mapped place_of_entry (joined bs) (rank_of bs c.args.spot)))
