use Rattle.yaml_scanner.proofs.Common.{fetch_block_entry, refl}
use Rattle.model_scanner.specs.Block.{begin_entry}
use Rattle.yaml_scanner.proofs.RunsLemmas.{becomes_runs, indicator_runs, runs_as, runs_exit, runs_stop, runs_then, step_runs}
use Rattle.yaml_scanner.proofs.fetcher.Fetcher.fetch_block_entry.Goals as goal

pub returns-in_err-pass_dash : goal.returns-in_err-pass_dash
unfolding fetch_block_entry
returns-in_err-pass_dash g c = runs_exit _ _ _ _ c.from_residual-in_err-pass_dash.result (runs_then _ _ _ _ _ (step_runs _ _ _ c.in_ok-check_block_entry.ensures.steps)
    (runs_then _ _ _ _ _ (indicator_runs _ _ c.skip_indicator.ensures.state c.skip_indicator.ensures.reads c.skip_indicator.ensures.bounds)
    (runs_then _ _ _ _ _ (becomes_runs _ _ _ c.in_ok-roll_indent.ensures)
    (runs_stop _ _ begin_entry _ c.in_err-pass_dash.ensures))))
    c.from_residual-in_err-pass_dash.ensures.1 (λ a. rw (c.col.ensures.value, c.mark-mark.ensures) refl)

pub returns : goal.returns
unfolding fetch_block_entry
returns g c = runs_as _ _ _ (runs_then _ _ _ _ _ (step_runs _ _ _ c.in_ok-check_block_entry.ensures.steps)
    (runs_then _ _ _ _ _ (indicator_runs _ _ c.skip_indicator.ensures.state c.skip_indicator.ensures.reads c.skip_indicator.ensures.bounds)
    (runs_then _ _ _ _ _ (becomes_runs _ _ _ c.in_ok-roll_indent.ensures)
    (runs_then _ _ _ _ _ c.in_ok-pass_dash.ensures
    c.begin_entry.ensures)))) (λ a. rw (c.col.ensures.value, c.mark-mark.ensures) refl)
