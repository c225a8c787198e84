use Rattle.yaml_scanner.proofs.Common.{ap, Fetcher, held, rules, sym, ◌∙◌}
use Rattle.yaml_scanner.proofs.HeldLemmas.{open_popped, without_block, without_more, without_done}
use Rattle.yaml_scanner.proofs.fetcher.Fetcher.unroll_non_block_indents.Goals as goal

pub returns-clause-runs : goal.returns-clause-runs
returns-clause-runs g c = record { held = without_done (held c.args.self.now) _ _ (c.levels.invariant.levels ∙ without_block _ _ _ (sym c.is_open.ensures ∙ c.levels-test.false)) (ap held c.levels.invariant.state); bounds = search rules; window = ap (λ s. s.window) c.levels.invariant.state }

pub levels-preserved : goal.levels-preserved
levels-preserved g c = record {
  state = ap (λ (s : Fetcher _). record s { levels = c.pop.new.self }) c.levels.invariant.state;
  levels = c.levels.invariant.levels ∙ without_more _ _ _ _ _ (open_popped _ _ _ (sym c.is_open.ensures ∙ c.levels-test.true) c.pop.ensures);
  bounds = search rules;
}
