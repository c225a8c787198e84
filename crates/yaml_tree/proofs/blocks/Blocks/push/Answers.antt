use Rattle.yaml_tree.proofs.BlocksCommon.{ap, arith, can_rise, counted_pushed, joined, joined_push, length, lent_back, refl, ◌∙◌, ◌≡◌}
use Rattle.yaml_tree.proofs.blocks.Blocks.push.Goals as goal

pub raise-requires : goal.raise-requires
raise-requires c =
    let grown = rw (c.as_slice.ensures.value, c.reserve.ensures.items) at c.grow.ensures.same in
    rw c.as_mut_slice.ensures.value (can_rise grown (omega (arith, ap (λ ys. length (joined ys)) c.self.view_is, c.requires)))

pub invariant_of-self-2 : goal.invariant_of-self-2
invariant_of-self-2 c =
    let grown = rw (c.as_slice.ensures.value, c.reserve.ensures.items) at c.grow.ensures.same in
    let enough = (c.in_ok-grow.ensures {u = tt}).ok in
    let kept = lent_back c.grow.new.starts.len c.raise.new.starts c.grow.new.starts.items (omega (arith, c.raise.ensures.count, c.as_mut_slice.ensures.len)) in
    let count : c.len-count.result ≡ length c.self.inside.blocks.items = omega (arith, c.len-count.ensures, c.self.inside.blocks.ok.0) in
    rw (kept, c.push_reserved.ensures.items, c.reserve.ensures.items, c.in_ok-block.ensures {u = tt})
    (counted_pushed c.args.entry c.self.invariant.filled grown (rw (c.as_mut_slice.ensures.value, count) at c.raise.ensures)
    (omega (arith, ap length (c.as_slice.ensures.value ∙ c.reserve.ensures.items))) (omega (arith, ap (λ ys. length (joined ys)) c.self.view_is, c.requires)))

pub returns-clause-ok : goal.returns-clause-ok
returns-clause-ok c =
    rw (c.push_reserved.ensures.items, c.reserve.ensures.items, c.self.view_is, c.in_ok-block.ensures {u = tt})
    (joined_push c.args.self.now c.args.entry (length (joined c.args.self.now)) refl)
