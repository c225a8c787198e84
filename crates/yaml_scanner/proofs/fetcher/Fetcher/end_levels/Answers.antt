use Rattle.yaml_scanner.proofs.Common.{[], ap, Fetcher, held, level, position_of, refl, rules, Tok, token, ◌++◌, ◌∙◌, ◌∷◌, ◌≡◌}
use Rattle.yaml_scanner.proofs.HeldLemmas.{unroll_in_flow, unroll_done, unrolled_done, unrolled_none, unrolled_more}
use Rattle.yaml_scanner.proofs.fetcher.Fetcher.end_levels.Goals as goal

pub returns-then-in_flow : goal.returns-then-in_flow
returns-then-in_flow g c = record { held = unroll_in_flow c.args.limit (held c.args.self.now) _ c.in_flow.ensures c.if-in_flow.true; err = tt; bounds = search rules; window = search rules }

pub returns-in_default : goal.returns-in_default
returns-in_default g c = record { held = unroll_done c.args.limit (held c.args.self.now) _ _ c.levels.invariant.flow (c.levels.invariant.levels ∙ unrolled_none _ _ _ _ _ c.in_default.ensures.0) (rw c.in_default.ensures.1 (ap held c.levels.invariant.state)); err = tt; bounds = search rules; window = ap (λ s. s.window) c.levels.invariant.state }

pub returns : goal.returns
returns g c = record { held = unroll_done c.args.limit (held c.args.self.now) _ _ c.levels.invariant.flow (c.levels.invariant.levels ∙ unrolled_done _ _ _ _ _ (rw (← c.indent.ensures.value) c.levels-test.false)) (ap held c.levels.invariant.state); err = tt; bounds = search rules; window = ap (λ s. s.window) c.levels.invariant.state }

pub levels-preserved : goal.levels-preserved
levels-preserved g c = record {
  state = ap (λ (s : Fetcher _). record s { levels = c.pop.new.self }) c.levels.invariant.state;
  levels = c.levels.invariant.levels ∙ unrolled_more _ _ _ _ _ (level c.pop.new.self.indent c.in-Some.needs_block_end) c.pop.new.self.indents c.in-Some.ensures (rw (← c.indent.ensures.value) c.levels-test.true) ∙ rw c.if-needs_block_end.false refl;
  flow = c.levels.invariant.flow;
  bounds = search rules;
}

pub levels-preserved-in_default-push : goal.levels-preserved-in_default-push
levels-preserved-in_default-push g c =
    let here : c.mark-mark.result ≡ position_of c.args.self.now.window = c.mark-mark.ensures ∙ ap (λ s. position_of s.window) c.levels.invariant.state in
    rw c.in_default-push.ensures.ok record {
      state = ap (λ (s : Fetcher _). record s { levels = c.pop.new.self; tokens = record s.tokens { all = c.levels.self.tokens.all ++ token c.mark-mark.result Tok.block_end ∷ [] } }) c.levels.invariant.state;
      levels = c.levels.invariant.levels ∙ unrolled_more _ _ _ _ _ (level c.pop.new.self.indent c.in-Some.needs_block_end) c.pop.new.self.indents c.in-Some.ensures (rw (← c.indent.ensures.value) c.levels-test.true) ∙ rw (c.if-needs_block_end.true, here) refl;
      flow = c.levels.invariant.flow;
      bounds = search rules;
    }
