use Rattle.yaml_tree.proofs.Common.{ap, arith, closed_up, get_or, get_or-remove_above, get_or-remove_below, length, length-remove, List, map, nat_tests, remove, suc, ℕ, ◌-◌, ◌<◌, ◌∙◌, ◌≡◌, ◌≢◌, ◌≤◌}
use Rattle.yaml_tree.proofs.Packing.{packing_all, packing_more}
use Rattle.yaml_tree.proofs.few.Few.without.Goals as goal

-- the next place that is kept stands one before
kept_next : (xs : List ℕ) (rank left : ℕ) → 0 < left → left ≤ length xs → rank < length xs → left - 1 ≢ rank
    → (closed_up rank left ≡ suc (closed_up rank (left - 1))) × ((closed_up rank (left - 1) < length (remove xs rank))
    × (get_or xs (left - 1) 0 ≡ get_or (remove xs rank) (closed_up rank (left - 1)) 0))
kept_next xs rank left some within inside other =
    let fewer = length-remove xs rank inside in
    (grind (arith, nat_tests), (grind (arith, nat_tests), grind (arith, nat_tests, get_or-remove_below, above)))
  where
    above : rank < left - 1 → get_or (remove xs rank) (left - 1 - 1) 0 ≡ get_or xs (left - 1) 0
    above h = get_or-remove_above xs rank 0 (left - 1 - 1) (omega arith) inside ∙ ap (λ i. get_or xs i 0) (omega arith)

pub loop-left-preserved-then-left-rank : goal.loop-left-preserved-then-left-rank
loop-left-preserved-then-left-rank c =
    let i = c.loop-left.invariant in
    let xs = c.args.self.now in
    let next = kept_next xs c.args.rank c.loop-left.left c.loop-left-test.true i.within c.requires c.if-left-rank.true in
    let low : c.closed_up.result < 16 = grind (arith, nat_tests, c.closed_up.ensures, c.at.ensures.low) in
    record {
      within = omega (arith, i.within);
      packing = packing_more (remove xs c.args.rank) (closed_up c.args.rank (c.loop-left.left - 1)) (closed_up c.args.rank c.loop-left.left) c.loop-left.rest
          c.closed_up.result i.packing next.0 next.1.0 (omega (arith, length-remove xs c.args.rank c.requires, c.len-left.ensures))
          (c.closed_up.ensures ∙ ap (closed_up c.at-gone.result) (c.at.ensures.place ∙ next.1.1)) low;
    }

pub returns : goal.returns
returns c =
    (packing_all (remove c.args.self.now c.args.rank) (closed_up c.args.rank c.loop-left.left) c.loop-left.rest (c.len.result - 1) c.loop-left.invariant.packing
    (grind (arith, nat_tests, c.loop-left-test.false)) (omega (arith, length-remove c.args.self.now c.args.rank c.requires, c.len.ensures.count))
    (omega (arith, c.len.ensures.within))).1
    ∙ ap (λ g. map (closed_up g) (remove c.args.self.now c.args.rank)) c.at-gone.ensures.place
