use Rattle.yaml_tree.proofs.Common.{ap, arith, left, lefts, source_tree, ◌∙◌}
use Rattle.yaml_tree.proofs.Copied.{filled_more, leads_pop, leads_push, lefts_push}
use Rattle.yaml_tree.proofs.copy.copy_row.Goals as goal

pub levels-smaller-in_ok-push-in-Some : goal.levels-smaller-in_ok-push-in-Some
levels-smaller-in_ok-push-in-Some c =
    let put = c.in_ok-push-in-Some.ensures {u = tt} in
    let made = c.in_ok-inner-in-Some.ensures {u = tt} in
    omega (
      arith,
      rw c.replace.ensures.value at (ap lefts put.items),
      lefts_push c.levels.open.items c.copy_scalars.new.self,
      put.len,
      made.left,
      ap left c.replace.ensures.after,
      rw c.in-Some.is at (c.in_ok-inner.ensures {u = tt}).left,
    )

pub levels-preserved-in_ok-push-in-Some : goal.levels-preserved-in_ok-push-in-Some
levels-preserved-in_ok-push-in-Some c =
    let seen = c.in_ok-inner.ensures {u = tt} in
    let made = c.in_ok-inner-in-Some.ensures {u = tt} in
    record {
      leads = rw (c.replace.ensures.after, (c.in_ok-push-in-Some.ensures {u = tt}).items, c.replace.ensures.value, made.source)
          (leads_push (source_tree c.args.source) (source_tree c.in-Some.inner) c.levels.open.items c.copy_scalars.new.self
          (rw seen.source c.levels.invariant.leads) (rw c.in-Some.is at seen.found));
      filled = rw c.replace.ensures.after made.filled;
    }

pub levels-smaller : goal.levels-smaller
levels-smaller c =
    let popped = c.in-Some-pop.ensures {u = tt} in
    omega (arith, popped.cases, ap lefts popped.items, lefts_push c.pop.new.self.items c.in-Some-pop.outer)

pub levels-preserved : goal.levels-preserved
levels-preserved c =
    let popped = leads_pop (source_tree c.args.source) (source_tree c.levels.level.source) c.pop.new.self.items c.in-Some-pop.outer
    (rw (c.in-Some-pop.ensures {u = tt}).items at c.levels.invariant.leads) in
    record {
      leads = popped.0;
      filled = filled_more c.in-Some-pop.outer _ _ (source_tree c.levels.level.source) popped.1
          (c.in_ok-whole-in-None.ensures {u = tt} ∙ (c.in_ok-inner.ensures {u = tt}).source) (c.in_ok-push-in-None.ensures {u = tt}).items;
    }
