use Rattle.yaml_emitter.proofs.Answering.{none_decide, rest_decides, valid_hash}
use Rattle.yaml_emitter.proofs.walk.+look.Goals as goal

pub look_at_items-items-preserved : goal.look_at_items-items-preserved
look_at_items-items-preserved t c = rest_decides c.items.invariant c.in-Some.ensures.steps c.look.ensures

pub look_at_pairs-pairs-preserved : goal.look_at_pairs-pairs-preserved
look_at_pairs-pairs-preserved t c = rest_decides c.pairs.invariant c.in-Some.ensures.steps (c.look.ensures, c.look-in-pairs.ensures)

pub look_at_pairs-returns : goal.look_at_pairs-returns
look_at_pairs-returns t c = valid_hash _ c.iter-key-items.ensures.distinct (none_decide c.pairs.invariant c.in-None.ensures.steps.0)
