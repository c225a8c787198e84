use Rattle.yaml_tree.proofs.Common.{pairs_view, rank_at, sym, view, without}
use Rattle.yaml_tree.proofs.Flattened.{pairs_from}
use Rattle.yaml_tree.proofs.Keeping.{indexed_without}
use Rattle.yaml_tree.proofs.Rows.{gap_absent, ranked_found}
use Rattle.yaml_tree.proofs.hash.Hash.remove.Goals as goal

pub returns-in_default : goal.returns-in_default
returns-in_default c =
    let gap = rw c.as_slice.ensures.value at (c.in_default.ensures {u = tt}).missing in
    let none = gap_absent c.self.inside.row.items c.self.invariant.hash (view c.args.key.now) (rank_at c.self.inside.ranks.kept c.in_default.field-0.spot) gap in
    rw (← c.self.view_is) (record { pairs = sym none.same; value = sym none.unfound })

pub take-requires : goal.take-requires
take-requires c =
    let rank = rw c.as_slice.ensures.value at (c.in-Ok.ensures {u = tt}).found in
    (ranked_found c.self.inside.row.items c.self.invariant.hash (view c.args.key.now) (rank_at c.self.inside.ranks.kept c.in-Ok.spot) c.at-place.result rank c.at-place.ensures).inside

pub invariant_of-self : goal.invariant_of-self
invariant_of-self c =
    let k = view c.args.key.now in
    let r = rank_at c.self.inside.ranks.kept c.in-Ok.spot in
    let rank = rw c.as_slice.ensures.value at (c.in-Ok.ensures {u = tt}).found in
    let there = ranked_found c.self.inside.row.items c.self.invariant.hash k r c.at-place.result rank c.at-place.ensures in
    indexed_without c.self.inside.row.items c.self.inside.ranks.kept _ r c.self.invariant k _ rank (there.rest _ c.take.ensures.rest)
    c.remove.ensures.places c.remove.ensures.digests c.remove.ensures.order

pub returns : goal.returns
returns c =
    let k = view c.args.key.now in
    let rank = rw c.as_slice.ensures.value at (c.in-Ok.ensures {u = tt}).found in
    let there = ranked_found c.self.inside.row.items c.self.invariant.hash k (rank_at c.self.inside.ranks.kept c.in-Ok.spot) c.at-place.result rank c.at-place.ensures in
    rw (← c.self.view_is) (record {
      pairs = pairs_from _ (without k (pairs_view c.self.inside.row.items)) (there.rest _ c.take.ensures.rest);
      value = there.found _ c.take.ensures.value;
    })
