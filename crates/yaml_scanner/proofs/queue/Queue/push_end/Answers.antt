use Rattle.yaml_scanner.proofs.Common.{rules}
use Rattle.yaml_scanner.proofs.QueueLemmas.{end_waits}
use Rattle.yaml_scanner.proofs.queue.Queue.push_end.Goals as goal

-- the end was pushed, so it waits
pub invariant_of-self-2 : goal.invariant_of-self-2
invariant_of-self-2 c = λ _ _. end_waits c.self.inside.waiting.items c.push_back_reserved.new.self.items c.stream_end.result c.args.mark c.stream_end.ensures (search rules)
