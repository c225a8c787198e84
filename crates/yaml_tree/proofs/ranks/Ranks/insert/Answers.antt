use Rattle.yaml_tree.proofs.Common.{pairs_view, places, rank_at, view}
use Rattle.yaml_tree.proofs.Ranking.{gap_none, ranked_added}
use Rattle.yaml_tree.proofs.ranks.Ranks.insert.Goals as goal

pub add-requires-clause-absent : goal.add-requires-clause-absent
add-requires-clause-absent c =
    gap_none (view c.args.key.now) (places c.args.self.now.kept) (pairs_view c.args.row.now) c.requires.indexed.hash.ranked (rank_at c.args.self.now.kept c.args.gap.spot) c.requires.gap

pub returns-in-Few-clause-ranked : goal.returns-in-Few-clause-ranked
returns-in-Few-clause-ranked c =
    let ranked = rw c.in-Few.is at c.requires.indexed.hash.ranked in
    let gap = rw c.in-Few.is at c.requires.gap in
    λ v. rw (c.insert.ensures, c.len-place.ensures.count) (ranked_added c.in-Few.few (pairs_view c.args.row.now) c.args.gap.spot.offset (view c.args.key.now) v ranked gap)
