use Rattle.yaml_tree.proofs.BlocksCommon.{[], ap, arith, get_or, get_or_past, joined, length, rank_of, refl, start_all, ◌≡◌}
use Rattle.yaml_tree.proofs.blocks.Blocks.insert.Goals as goal

pub returns-in_ok-push-clause-ok : goal.returns-in_ok-push-clause-ok
returns-in_ok-push-clause-ok c =
    let bs = c.with_room.new.self in
    let s = c.in_ok-spot.spot in
    let e = c.in_ok-spot.ensures {u = tt} in
    let last : s.block ≡ length bs = omega (arith, c.if-spot-len.true, c.len.ensures, ap length c.self.view_is, c.self.inside.blocks.ok.0) in
    let none : length (get_or bs s.block []) ≡ 0 = ap length (get_or_past bs s.block [] (omega (arith, last))) in
    let rank : length (joined bs) ≡ rank_of c.args.self.now c.args.spot = omega (arith, start_all bs s.block (omega (arith, last)), e.spot.1, none, e.rank) in
    rw ((c.in_ok-push.ensures {u = tt}).ok, rank, c.with_room.ensures.joined) refl
