use Rattle.yaml_tree.proofs.Common.{pairs_view, places, probed, rank_at}
use Rattle.yaml_tree.proofs.Ranking.{gap_none}
use Rattle.yaml_tree.proofs.Rows.{ranked_place}
use Rattle.yaml_tree.proofs.hash.Hash.place_of_probe.Goals as goal

pub returns-in-Ok-clause-place : goal.returns-in-Ok-clause-place
returns-in-Ok-clause-place c =
    rw (← c.self.view_is) (ranked_place c.self.inside.row.items c.self.invariant.hash (probed c.args.probe) (rank_at c.self.inside.ranks.kept c.in-Ok.spot) c.at.result
    (rw c.as_slice.ensures.value at (c.in-Ok.ensures {u = tt}).found) c.at.ensures)

pub returns-in-Err-clause-place : goal.returns-in-Err-clause-place
returns-in-Err-clause-place c =
    rw (← c.self.view_is) (gap_none (probed c.args.probe) (places c.self.inside.ranks.kept) (pairs_view c.self.inside.row.items) c.self.invariant.hash.ranked
    (rank_at c.self.inside.ranks.kept c.in-Err.field-0.spot) (rw c.as_slice.ensures.value at (c.in-Err.ensures {u = tt}).missing))
