use Rattle.yaml_scanner.proofs.Common.{fetch_value, Ok, on_held, push, refl, Tok}
use Rattle.yaml_scanner.proofs.RunsLemmas.{becomes_runs, indicator_runs, runs_as, runs_exit, runs_stop, runs_then, step_runs, turns_runs}
use Rattle.yaml_scanner.proofs.fetcher.Fetcher.fetch_value.Goals as goal

pub returns-in_err-begin_value : goal.returns-in_err-begin_value
unfolding fetch_value
returns-in_err-begin_value g c = runs_exit _ _ _ _ c.from_residual-in_err-begin_value.result (runs_then _ _ _ _ _ (turns_runs _ _ c.open_pair-opens_pair.ensures.runs)
    (runs_then _ _ _ _ _ (indicator_runs _ _ c.skip_indicator.ensures.state c.skip_indicator.ensures.reads c.skip_indicator.ensures.bounds)
    (runs_then _ _ _ _ _ c.in_ok-check_value_space.ensures
    (runs_stop _ _ (λ t. Ok (on_held (push c.mark-mark.result Tok.value) t)) _ (step_runs _ _ _ c.in_err-begin_value.ensures)))))
    c.from_residual-in_err-begin_value.ensures.1 (λ a. rw (c.mark-mark.ensures, c.open_pair-opens_pair.ensures.value) refl)

pub returns : goal.returns
unfolding fetch_value
returns g c = runs_as _ _ _ (runs_then _ _ _ _ _ (turns_runs _ _ c.open_pair-opens_pair.ensures.runs)
    (runs_then _ _ _ _ _ (indicator_runs _ _ c.skip_indicator.ensures.state c.skip_indicator.ensures.reads c.skip_indicator.ensures.bounds)
    (runs_then _ _ _ _ _ c.in_ok-check_value_space.ensures
    (runs_then _ _ _ _ _ (step_runs _ _ _ c.in_ok-begin_value.ensures)
    (becomes_runs _ _ _ c.push_token.ensures))))) (λ a. rw (c.mark-mark.ensures, c.open_pair-opens_pair.ensures.value) refl)
