use Rattle.yaml_tree.proofs.BlocksCommon.{ap, AreFilled, arith, block_read, digest_at, digits_rise, digits_shared, edge_first, edge_joined, filled_beside, filled_counted, IsEdge, joined, length, rules, subst, suc, ◌+◌, ◌-◌, ◌<◌, ◌∙◌, ◌≡◌, ◌≤◌}
use Rattle.yaml_tree.proofs.blocks.Blocks.edge.Goals as goal

pub returns-in-Some : goal.returns-in-Some
returns-in-Some c =
    let bs = c.args.self.now in
    let i = c.in-Some.block in
    let filled = subst AreFilled c.self.view_is c.self.invariant.filled in
    let heads = rw (c.as_slice.ensures.value, c.self.view_is) at c.edge_of_heads-before.ensures.edge in
    let next : c.edge_of_heads-before.result ≡ suc i = omega (arith, c.in-Some.ensures) in
    let inside : i < length bs = omega (arith, heads.counted) in
    let read = block_read c.self.view_is inside c.index.ensures in
    let blocks = length c.as_slice.result.now in
    let size = length c.index.result.now - 1 in
    let count = ap length (c.as_slice.ensures.value ∙ c.self.view_is) in
    let both : blocks + size ≤ length (joined bs) = omega (arith, ap length read, filled i inside, filled_beside bs i filled inside) in
    let shared = digits_shared blocks size (omega arith) in
    let rise = digits_rise (blocks + size) (length (joined bs)) both in
    let first = c.edge_of_heads-before.ensures.compared in
    let second = c.edge.ensures.compared in
    record {
      spot = search rules;
      edge = edge_joined bs c.args.digest c.edge_of_heads-before.result i c.edge.result filled heads next
          (subst (λ b. IsEdge (digest_at b) (length b) c.args.digest c.edge.result) read c.edge.ensures.edge);
      compared = (omega (arith, first.0, second.0), omega (arith, first.1, second.1, shared, rise));
    }

pub returns-in-None : goal.returns-in-None
returns-in-None c =
    let bs = c.args.self.now in
    let filled = subst AreFilled c.self.view_is c.self.invariant.filled in
    let heads = rw (c.as_slice.ensures.value, c.self.view_is) at c.edge_of_heads-before.ensures.edge in
    let count = ap length (c.as_slice.ensures.value ∙ c.self.view_is) in
    let blocks = digits_rise (length c.as_slice.result.now) (length (joined bs)) (omega (arith, filled_counted bs filled)) in
    let first = c.edge_of_heads-before.ensures.compared in
    record {
      spot = search rules;
      edge = edge_first bs c.args.digest c.edge_of_heads-before.result filled heads (omega (arith, c.in-None.ensures));
      compared = (first.0, omega (arith, first.1, blocks));
    }
