use Rattle.std.proofs.lemmas.Simd.{map-map}
use Rattle.yaml_tree.proofs.ranks.Ranks.move_to_end.Goals as goal

pub returns-in-Many-clause-places : goal.returns-in-Many-clause-places
returns-in-Many-clause-places c = rw (c.in-Many.is, c.move_up.ensures, c.deref_mut.ensures.value) (simp map-map)

pub returns-in-Many-clause-digests : goal.returns-in-Many-clause-digests
returns-in-Many-clause-digests c = rw (c.in-Many.is, c.move_up.ensures, c.deref_mut.ensures.value) (simp map-map)
