use Rattle.yaml_tree.proofs.BlocksCommon.{ap, arith, joined, last_counts, length, nat_tests, ◌<◌, ◌^◌}
use Rattle.yaml_tree.proofs.blocks.Blocks.is_full.Goals as goal

pub returns : goal.returns
returns c =
    let whole = last_counts c.self.inside.starts.items c.len.result c.index.result.now c.self.invariant.right c.self.view_is (omega arith) c.index.ensures in
    let fits : length (joined c.args.self.now) < 2 ^ 64 = omega (arith, c.self.invariant.fits, ap (λ ys. length (joined ys)) c.self.view_is) in
    record { full = λ t. grind (arith, nat_tests, t, whole); room = λ t. grind (arith, nat_tests, t, whole, fits) }
