use Rattle.yaml_tree.proofs.Common.{AreDigests, digest_of_entry, map, pairs_view, place_of_entry}
use Rattle.yaml_tree.proofs.Digesting.{AreSorted}
use Rattle.yaml_tree.proofs.ranks.by_digests.Given as goal

abbrev pub invariant-loop-rank : goal.invariant-loop-rank
invariant-loop-rank l = record {
  sorted : AreSorted (map place_of_entry l.entries.items) l.few (pairs_view l.row) l.rank;
  digested : AreDigests (map digest_of_entry l.entries.items) (map place_of_entry l.entries.items) (pairs_view l.row);
}
