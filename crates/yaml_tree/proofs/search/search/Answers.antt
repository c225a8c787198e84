use Rattle.yaml_tree.proofs.Common.{ap, arith, length, pairs_view, places, probed, rank_at, refl, sym, tree_cmp, tree_tied, ◌+◌, ◌-◌, ◌/◌, ◌∙◌}
use Rattle.yaml_tree.proofs.Halving.{counting_more, digits_rise}
use Rattle.yaml_tree.proofs.Indexed.{next_spot, next_rank, place_inside}
use Rattle.yaml_tree.proofs.Digesting.{kept_digests_rise, left_after, left_before, window_leaves}
use Rattle.yaml_tree.proofs.Rows.{row_counted, spot_at}
use Rattle.yaml_tree.proofs.search.search.Goals as goal

pub window-count-requires-clause-rising : goal.window-count-requires-clause-rising
window-count-requires-clause-rising c = kept_digests_rise c.args.ranks.now.kept (pairs_view c.args.row.now) c.requires.hash.ranked c.requires.digested

pub window-count-requires-clause-fits : goal.window-count-requires-clause-fits
window-count-requires-clause-fits c = omega (arith, row_counted c.args.row.now c.requires.hash)

pub loop-count-init : goal.loop-count-init
loop-count-init c =
    let kept = c.args.ranks.now.kept in
    let k = probed c.plain-probe.result in
    let count = c.window-count.result.1 in
    let left = window_leaves kept k (pairs_view c.args.row.now) (rank_at kept c.window-count.result.0) count c.requires.hash.ranked c.requires.digested
    (c.window-count.ensures.window k c.digest-digest.ensures.digest) in
    record {
      spot = c.window-count.ensures.spot;
      left = left;
      counting = record { counted = omega arith; within = omega (arith, digits_rise count (length (places kept)) (omega (arith, left.within))) };
      digests = refl;
    }

pub advanced-middle-requires-clause-fits : goal.advanced-middle-requires-clause-fits
advanced-middle-requires-clause-fits c = omega (arith, row_counted c.args.row.now c.requires.hash)

pub overflow_mul-place : goal.overflow_mul-place
overflow_mul-place c = omega (arith, (spot_at c.args.row.now c.requires c.advanced-middle.result c.at-place.result c.advanced-middle.ensures.place c.at-place.ensures).inside)

pub offset_bounds-row-place : goal.offset_bounds-row-place
offset_bounds-row-place c = omega (arith, (spot_at c.args.row.now c.requires c.advanced-middle.result c.at-place.result c.advanced-middle.ensures.place c.at-place.ensures).inside)

pub bounds-row-place : goal.bounds-row-place
bounds-row-place c = omega (arith, (spot_at c.args.row.now c.requires c.advanced-middle.result c.at-place.result c.advanced-middle.ensures.place c.at-place.ensures).inside)

pub loop-count-preserved-in-Less : goal.loop-count-preserved-in-Less
loop-count-preserved-in-Less c =
    let i = c.loop-count.invariant in
    let at = spot_at c.args.row.now c.requires c.advanced-middle.result c.at-place.result c.advanced-middle.ensures.place c.at-place.ensures in
    let compared = c.compare.ensures.order ∙ ap (tree_cmp (probed c.plain-probe.result)) (at.key _ c.index-row-place.is) in
    record {
      spot = i.spot;
      left = left_before c.requires.hash.ranked i.left (c.loop-count.count / 2) c.advanced-middle.ensures.rank
          (omega (arith, c.loop-count-test.true)) (sym compared ∙ c.in-Less.is);
      counting = counting_more _ (c.loop-count.count / 2) i.counting c.loop-count-test.true (omega arith) c.compare.ensures.keys;
      digests = c.compare.ensures.digests ∙ i.digests;
    }

pub overflow_add-low : goal.overflow_add-low
overflow_add-low c =
    omega (arith, row_counted c.args.row.now c.requires.hash, (place_inside c.args.ranks.now.kept c.advanced-middle.result c.advanced-middle.ensures.place).1)

pub loop-count-preserved : goal.loop-count-preserved
loop-count-preserved c =
    let i = c.loop-count.invariant in
    let at = spot_at c.args.row.now c.requires c.advanced-middle.result c.at-place.result c.advanced-middle.ensures.place c.at-place.ensures in
    let compared = c.compare.ensures.order ∙ ap (tree_cmp (probed c.plain-probe.result)) (at.key _ c.index-row-place.is) in
    let rest = c.loop-count.count - (c.loop-count.count / 2 + 1) in
    record {
      spot = next_spot c.args.ranks.now.kept c.advanced-middle.result.block c.advanced-middle.result.offset c.advanced-middle.ensures.place;
      left = left_after c.requires.hash.ranked i.left (c.loop-count.count / 2) c.advanced-middle.ensures.rank
          (omega (arith, c.loop-count-test.true)) _ rest (next_rank c.args.ranks.now.kept c.advanced-middle.result.block c.advanced-middle.result.offset) refl
          (sym compared ∙ c.in-Greater.is);
      counting = counting_more _ rest i.counting c.loop-count-test.true (omega arith) c.compare.ensures.keys;
      digests = c.compare.ensures.digests ∙ i.digests;
    }

pub returns-in-Equal-clause-found : goal.returns-in-Equal-clause-found
returns-in-Equal-clause-found c =
    let at = spot_at c.args.row.now c.requires c.advanced-middle.result c.at-place.result c.advanced-middle.ensures.place c.at-place.ensures in
    let compared = c.compare.ensures.order ∙ ap (tree_cmp (probed c.plain-probe.result)) (at.key _ c.index-row-place.is) in
    (at.ranked, sym (tree_tied _ _ (sym compared ∙ c.in-Equal.is)) ∙ c.plain-probe.ensures)

pub returns-in-Equal-clause-keys : goal.returns-in-Equal-clause-keys
returns-in-Equal-clause-keys c =
    let more = counting_more _ 0 c.loop-count.invariant.counting c.loop-count-test.true (omega arith) c.compare.ensures.keys in
    (omega (arith, more.counted), omega (arith, more.within))
