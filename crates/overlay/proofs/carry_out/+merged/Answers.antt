use Rattle.overlay.proofs.Common.{arith}
use Rattle.overlay.proofs.PutLemmas.{value_put}
use Rattle.overlay.proofs.carry_out.+merged.Goals as goal

pub merged_values-pairs-preserved : goal.merged_values-pairs-preserved
merged_values-pairs-preserved t c = record {
  merged = rw (c.in_ok-insert.ensures, c.in_ok-clone.ensures.tree, c.in_ok-value.ensures.tree)
      (value_put _ _ c.pairs.whole c.pairs.key-iterator c.args.pairs.now c.next.new.self c.iter-key-items.ensures.distinct c.in-Some.ensures.steps c.pairs.invariant.merged);
  no_deeper = let deep = rw c.in-Some.ensures.steps at c.pairs.invariant.no_deeper in omega arith;
}
