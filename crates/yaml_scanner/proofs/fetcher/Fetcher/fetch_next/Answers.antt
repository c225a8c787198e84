use Rattle.yaml_scanner.proofs.Common.{ap, arith, fetch_next, refl, rules, ◌+◌, ◌∙◌}
use Rattle.yaml_scanner.proofs.RunsLemmas.{always, brings_on, brings_stop, brings_then, gets, refused, runs_stop, runs_then, step_runs, unrolled_runs}
use Rattle.yaml_scanner.proofs.NodeFollows.{fetched_rest}
use Rattle.yaml_scanner.proofs.fetcher.Fetcher.fetch_next.Goals as goal

pub returns-in-Err : goal.returns-in-Err
unfolding fetch_next
returns-in-Err g c = gets _ _ _ (refused _ _ _ _ (runs_stop _ _ _ _ c.in-Err.ensures.runs)) (λ a. refl) tt

pub returns-in-Err-drop_stale : goal.returns-in-Err-drop_stale
unfolding fetch_next
returns-in-Err-drop_stale g c = gets _ _ _ (refused _ _ _ _ (runs_then _ _ _ _ _ c.in_default.ensures.runs (runs_stop _ _ _ _ (step_runs _ _ _ c.in-Err-drop_stale.ensures.steps)))) (λ a. refl) tt

pub returns-in-Err-fetch_here : goal.returns-in-Err-fetch_here
unfolding fetch_next
returns-in-Err-fetch_here g c = gets _ _ _ (brings_then _ _ _ _ _ c.in_default.ensures.runs
    (brings_then _ _ _ _ _ (step_runs _ _ _ c.in_default-drop_stale.ensures.steps)
    (brings_then _ _ _ _ _ (unrolled_runs c.drop_stale.new.self c.unroll_indent.new.self c.fetch_node.new.self _ _ (c.in-Ok-false.ensures.none c.in-Ok-false.field-0-test)
    (ap (λ n. n + 1) (c.col-limit.ensures.value ∙ ap (λ m. m.col) c.mark.ensures)) c.in_default-unroll_indent.ensures)
    (brings_stop _ _ _ _ _ c.in-Err-fetch_here.ensures.runs)))) (λ a. refl) tt

pub returns : goal.returns
unfolding fetch_next
returns g c = gets _ _ _ (brings_then _ _ _ _ _ c.in_default.ensures.runs
    (brings_then _ _ _ _ _ (step_runs _ _ _ c.in_default-drop_stale.ensures.steps)
    (brings_then _ _ _ _ _ (unrolled_runs c.drop_stale.new.self c.unroll_indent.new.self c.fetch_node.new.self _ _ (c.in-Ok-false.ensures.none c.in-Ok-false.field-0-test)
    (ap (λ n. n + 1) (c.col-limit.ensures.value ∙ ap (λ m. m.col) c.mark.ensures)) c.in_default-unroll_indent.ensures)
    (brings_on _ _ _ _ _ c.in_default-fetch_here.ensures.runs (step_runs _ _ _ c.drop_stale-2.ensures.steps))))) (λ a. refl)
    (always c.drop_stale-2.result (λ e. rw c.drop_stale-2.ensures.steps.window (c.in_default-fetch_here.ensures.done (rw (← c.drop_stale-2.ensures.steps.bounds.stop) e))))

pub returns-in-Ok-true : goal.returns-in-Ok-true
returns-in-Ok-true g c = let m = c.in-Ok-true.ensures.bounds c.in-Ok-true.field-0-test in
    let n = c.in_default-unroll_indent.ensures.bounds in
    let o = c.in_default-drop_stale.ensures.steps.bounds in
    let p = c.in_default.ensures.runs.bounds in
    record {
      does = fetched_rest c.args.self.now c.skip_to_next_token.new.self c.drop_stale.new.self c.unroll_indent.new.self c.fetch_node.new.self _ _ _ _ (c.in_default-unroll_indent.ensures.window ∙ c.in_default-drop_stale.ensures.steps.window) c.in_default.ensures.runs c.in_default-drop_stale.ensures.steps.comes
          (ap (λ n. n + 1) (c.col-limit.ensures.value ∙ ap (λ m. m.col) c.mark.ensures)) c.in_default-unroll_indent.ensures.held (c.in-Ok-true.ensures.does c.in-Ok-true.field-0-test);
      done = λ e. absurd (cc (m.stop, n.stop, o.stop, p.stop, c.requires.going, e));
      less = omega (arith, m.bound, n.bound, o.bound, p.bound);
      run = search rules;
    }
