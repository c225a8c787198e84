use Rattle.yaml_tree.proofs.BlocksCommon.{ap, AreFilled, arith, block_read, last_block, length, nat_tests, next_digest, rules, spot_digest, start_all, subst, suc, ◌+◌, ◌<◌, ◌≡◌}
use Rattle.yaml_tree.proofs.blocks.Blocks.is_past.Goals as goal

pub returns-then-len-spot-clause-past : goal.returns-then-len-spot-clause-past
returns-then-len-spot-clause-past c =
    let all = start_all c.args.self.now c.args.spot.block (omega (arith, c.if-len-spot.true, c.len.ensures, ap length c.self.view_is, c.self.inside.blocks.ok.0)) in
    λ t h. absurd (omega (arith, all, h))

pub returns-then-spot-len : goal.returns-then-spot-len
returns-then-spot-len c =
    let inside : c.args.spot.block < length c.args.self.now = omega (arith, c.if-len-spot.false, ap length c.self.view_is) in
    let same = spot_digest c.self.view_is inside c.index-block.ensures c.args.spot.offset (omega (arith, c.if-spot-len.true)) c.digest.ensures in
    record {
      past = λ t h. grind (arith, nat_tests, t, same, c.is_below.ensures.order);
      not_past = λ t. grind (arith, nat_tests, t, same, c.is_below.ensures.order);
      compared = search rules;
    }

pub returns-then-len-spot-2-clause-past : goal.returns-then-len-spot-2-clause-past
returns-then-len-spot-2-clause-past c =
    let inside : c.args.spot.block < length c.args.self.now = omega (arith, c.if-len-spot.false, ap length c.self.view_is) in
    let last : length c.args.self.now ≡ suc c.args.spot.block = omega (arith, c.if-len-spot-2.true, ap length c.self.view_is) in
    let all = last_block c.self.view_is inside c.index-block.ensures last in
    λ t h. absurd (omega (arith, all, h, c.len-2.ensures, c.if-spot-len.false))

pub returns : goal.returns
returns c =
    let after : c.args.spot.block + 1 < length c.args.self.now = omega (arith, c.if-len-spot-2.false, ap length c.self.view_is) in
    let inside : c.args.spot.block < length c.args.self.now = omega arith in
    let end = ap length (block_read c.self.view_is inside c.index-block.ensures) in
    let filled = subst AreFilled c.self.view_is c.self.invariant.filled in
    let next = next_digest c.self.view_is inside c.index-block.ensures filled after c.index.ensures c.digest-2.ensures in
    let offset : c.args.spot.offset ≡ length c.index-block.result.now = omega (arith, end, c.if-spot-len.false, c.requires.1) in
    let same = rw (← offset) at next in
    record {
      past = λ t h. grind (arith, nat_tests, t, same, c.is_below-2.ensures.order);
      not_past = λ t. grind (arith, nat_tests, t, same, c.is_below-2.ensures.order);
      compared = search rules;
    }
