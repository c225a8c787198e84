use Rattle.yaml_chars.proofs.Common.{arith}
use Rattle.yaml_chars.proofs.QueueLemmas.{queue_after_push}
use Rattle.yaml_chars.proofs.ring.Ring.keep_only.Goals as goal

-- a write behind no item
pub returns : goal.returns
returns c = queue_after_push 16 0 0 c.self.inside.slots (omega arith) (omega arith) c.self.invariant.2 c.args.c (omega arith)
