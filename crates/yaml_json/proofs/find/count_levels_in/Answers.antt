use Rattle.yaml_json.proofs.Answering.{arith, common_steps, has_parts_met, IsSoundAtRoot, left_sound, searches_in, smaller_in, subst, sym, view, ◌+◌, ◌≡◌}
use Rattle.yaml_json.proofs.find.count_levels_in.Goals as goal

pub levels-smaller : goal.levels-smaller
levels-smaller c =
    let seen = has_parts_met (view c.in-Some.met.node.now) c.in-Some.met.reason c.in_default-reason.not-Some c.in-Some.ensures.met in
    rw c.in-Ok.ensures.ok
    (smaller_in c.levels.invariant c.in-Some.met.passed c.in-Some.ensures.meets c.of-level-in-levels.result seen.1
    c.of-level-in-levels.ensures.tree)

pub levels-preserved : goal.levels-preserved
levels-preserved c =
    let seen = has_parts_met (view c.in-Some.met.node.now) c.in-Some.met.reason c.in_default-reason.not-Some c.in-Some.ensures.met in
    let more : c.in-Some-checked_add.deeper ≡ c.levels.depth + 1 = grind (arith, common_steps) in
    rw c.in-Ok.ensures.ok
    (searches_in c.levels.invariant c.in-Some.met.passed c.in-Some.ensures.meets c.of-level-in-levels.result seen
    c.of-level-in-levels.ensures.tree c.of-level-in-levels.ensures.none_passed more c.max-deepest.ensures)

pub returns-in_default-push-clause-names : goal.returns-in_default-push-clause-names
returns-in_default-push-clause-names c = subst IsSoundAtRoot (sym c.requires.fault) (left_sound (view c.args.tree.now))
