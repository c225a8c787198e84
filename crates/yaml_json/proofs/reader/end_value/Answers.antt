use Rattle.yaml_json.proofs.Answering.{ap, arith, ended_on, length, open_on, option_to_list, outermost, view, ◌++◌, ◌∙◌, ◌≡◌}
use Rattle.yaml_json.proofs.Places.{none_left}
use Rattle.yaml_json.proofs.reader.end_value.Goals as goal

pub returns-then-not-branch-clause-ends : goal.returns-then-not-branch-clause-ends
returns-then-not-branch-clause-ends c text h =
    open_on c.if-not-branch.true (c.in_ok-put_last.ensures {u = tt}).puts (c.levels.invariant.goes_on text h)

pub levels-preserved : goal.levels-preserved
levels-preserved c =
    let popped = c.pop.ensures.items ∙ ap (λ x. c.pop.new.self.items ++ option_to_list x) c.in-Some.is in
    record {
      goes_on = λ text h. ended_on c.in-Some.collection c.if-not-branch.false popped c.into_tree-value.ensures
          (c.in_ok-put_last.ensures {u = tt}).puts (c.levels.invariant.goes_on text h);
      nearer = omega (arith, (c.in_ok-put_last.ensures {u = tt}).nearer, c.levels.invariant.nearer);
    }

pub returns-clause-ends : goal.returns-clause-ends
returns-clause-ends c text h =
    let none : length c.levels.opened.items ≡ 0 = omega (arith, none_left _ c.is_empty.result c.is_empty.ensures c.levels-test.false) in
    outermost c.levels.opened.items (view c.levels.value) text c.levels.cursor none (c.levels.invariant.goes_on text h)
