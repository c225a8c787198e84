use Rattle.yaml_chars.proofs.Common.{[], ap, arith, length, List, ℕ, ◌++◌, ◌<◌, ◌∙◌, ◌∷◌}
use Rattle.yaml_chars.proofs.QueueLemmas.{length-queue, queue_after_push}
use Rattle.yaml_chars.proofs.ring.Ring.push.Goals as goal

-- the write is after the last item, since the queue has room
pub returns : goal.returns
returns c =
    let q = c.self.inside in
    let length_old = length-queue 16 _ _ _ c.self.invariant.0 c.self.invariant.1 c.self.invariant.2 in
    let same_length = ap length c.self.view_is in
    let has_room : q.len < 16 = omega arith in
    queue_after_push 16 _ _ _ c.self.invariant.0 c.self.invariant.1 c.self.invariant.2 c.args.c has_room
    ∙ ap (λ (xs : List ℕ). xs ++ c.args.c ∷ []) c.self.view_is
