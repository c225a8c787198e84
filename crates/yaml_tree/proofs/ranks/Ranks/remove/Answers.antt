use Rattle.yaml_tree.proofs.Common.{joined, place_of_entry, rank_of}
use Rattle.std.proofs.lemmas.Simd.{map-map}
use Rattle.yaml_tree.proofs.Indexed.{number_mapped, map-remove}
use Rattle.yaml_tree.proofs.ranks.Ranks.remove.Goals as goal

pub returns-in-Many-clause-places : goal.returns-in-Many-clause-places
returns-in-Many-clause-places c =
    let bs = c.in-Many.blocks.value in
    rw (c.in-Many.is, c.remove.ensures, c.deref_mut.ensures.value, ← number_mapped place_of_entry (joined bs) (rank_of bs c.args.spot)) (simp (← map-remove, map-map))

pub returns-in-Many-clause-digests : goal.returns-in-Many-clause-digests
returns-in-Many-clause-digests c = rw (c.in-Many.is, c.remove.ensures, c.deref_mut.ensures.value) (simp (← map-remove, map-map))
