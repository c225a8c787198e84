use Rattle.yaml_tree.proofs.BlocksCommon.{AreStarts, arith, get_or_read, length, starts_pushed, starts_some, subst, suc, sym, ◌-◌, ◌≡◌}
use Rattle.yaml_tree.proofs.starts.grow.Goals as goal

pub returns-in_ok-push-clause-same : goal.returns-in_ok-push-clause-same
returns-in_ok-push-clause-same c =
    let olds = c.args.starts.now.items in
    let some = starts_some c.requires in
    let last : suc (c.len-count.result - 1) ≡ length olds = grind (arith, some, c.len-count.ensures) in
    subst (AreStarts c.args.blocks.now) (sym (c.in_ok-push.ensures {u = tt}).items)
    (starts_pushed c.args.blocks.now olds c.index-last.result.now (c.len-count.result - 1) c.requires last
    (get_or_read olds (c.len-count.result - 1) c.index-last.result.now (omega (arith, last)) c.index-last.ensures 0))
