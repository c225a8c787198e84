use Rattle.yaml_chars.proofs.Common.{ap, arith, drop, length, sym, ◌<◌, ◌∙◌}
use Rattle.yaml_chars.proofs.QueueLemmas.{length-queue, queue_before_pop}
use Rattle.yaml_chars.proofs.ring.Ring.drop_first.Goals as goal

-- the old items are the oldest slot, then the new items
pub returns : goal.returns
returns c =
    let q = c.self.inside in
    let length_old = length-queue 16 _ _ _ c.self.invariant.0 c.self.invariant.1 c.self.invariant.2 in
    let same_length = ap length c.self.view_is in
    let some : 0 < q.len = omega arith in
    let split = queue_before_pop 16 _ _ _ c.self.invariant.0 c.self.invariant.1 c.self.invariant.2 some in
    ap (drop 1) (sym split ∙ c.self.view_is)
