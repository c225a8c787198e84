use Rattle.yaml_scanner.proofs.Common.{held, refl, rules}
use Rattle.yaml_scanner.proofs.ReadsLemmas.{Reads-along, Reads-map}
use Rattle.yaml_scanner.proofs.NodeLemmas.{next_position, stream_ended, stream_refused}
use Rattle.yaml_scanner.proofs.fetcher.Fetcher.fetch_stream_end.Goals as goal

pub returns-then-has_required-clause-runs : goal.returns-then-has_required-clause-runs
returns-then-has_required-clause-runs g c = record {
  comes = rw c.fail_here.ensures.fault (Reads-along _ _ _ _ refl c.fail_here.ensures.window (Reads-map _ _ c.end_line.ensures.reads (λ a b p n. stream_refused a (held c.args.self.now) _ _ (next_position c.args.self.now.window c.end_line.new.self c.end_line.ensures.state) (c.has_required.ensures c.args.self.now.tokens.given) c.if-has_required.true)));
  less = tt;
  run = search rules;
}

pub returns-clause-runs : goal.returns-clause-runs
returns-clause-runs g c = record {
  comes = Reads-along _ _ _ _ refl c.in_ok-unroll_indent.ensures.window (Reads-map _ _ c.end_line.ensures.reads (λ a b p. rw p (stream_ended a (held c.args.self.now) (held c.unroll_indent.new.self) _ _ _ _ _
      (next_position c.args.self.now.window c.end_line.new.self c.end_line.ensures.state) (c.has_required.ensures c.args.self.now.tokens.given) c.if-has_required.false (c.clear.ensures c.args.self.now.tokens.given)
      c.in_ok-unroll_indent.ensures.held c.mark-mark.ensures (rw c.in_default.ensures.ok refl))));
  less = search rules;
  run = search rules;
}
