use Rattle.yaml_tree.proofs.BlocksCommon.{ap, AreFilled, arith, block_read, digest_at, joined, last_block, length, ltb-true, rules, spot_digest, start, subst, suc, sym, ◌+◌, ◌-◌, ◌<◌, ◌∙◌, ◌≡◌}
use Rattle.yaml_tree.proofs.blocks.Blocks.end_below.Goals as goal

pub returns-then-is_below : goal.returns-then-is_below
returns-then-is_below c =
    let bs = c.args.self.now in
    let i = c.in_ok-block.block in
    let end = c.len-offset.result in
    let last : length bs ≡ suc i = omega (arith, c.in_ok-block.ensures, c.len.ensures, ap length c.self.view_is) in
    let inside : i < length bs = omega arith in
    let all = last_block c.self.view_is inside c.index-last.ensures last in
    let read = ap length (block_read c.self.view_is inside c.index-last.ensures) in
    let some : 0 < end = omega (arith, read, subst AreFilled c.self.view_is c.self.invariant.filled i inside) in
    let there = spot_digest c.self.view_is inside c.index-last.ensures (end - 1) (omega arith) c.digest.ensures in
    let less : c.digest.result < c.args.digest = ltb-true _ _ (sym c.is_below.ensures.order ∙ c.if-is_below.true) in
    record {
      spot = search rules;
      end = omega arith;
      below = record {
        counted = omega arith;
        below = λ k e. let same : k ≡ start bs i + (end - 1) = omega arith in omega (arith, ap (digest_at (joined bs)) same);
        from = λ h. absurd (omega arith);
      };
      compared = search rules;
    }
