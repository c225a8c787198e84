use Rattle.yaml_scanner.proofs.Common.{ap, held, None, refl, rules, seen, ◌∙◌}
use Rattle.yaml_scanner.proofs.KeyLemmas.{with_top_seen}
use Rattle.yaml_scanner.proofs.HeldLemmas.{not_removed, removed}
use Rattle.yaml_scanner.proofs.fetcher.Fetcher.remove_implicit_key.Goals as goal

pub returns-then-top_is_required-clause-told : goal.returns-then-top_is_required-clause-told
returns-then-top_is_required-clause-told g c = rw c.fail_here.ensures.fault (not_removed (held c.args.self.now) _ _ (c.top_is_required.ensures c.args.self.now.tokens.given) c.if-top_is_required.true refl)

pub returns-then-top_is_required-clause-steps : goal.returns-then-top_is_required-clause-steps
returns-then-top_is_required-clause-steps g c = record { comes = λ n. returns-then-top_is_required-clause-told g c; bounds = search rules; window = search rules }

pub returns-clause-steps : goal.returns-clause-steps
returns-clause-steps g c = record {
  comes = removed (held c.args.self.now) _ _ (c.top_is_required.ensures c.args.self.now.tokens.given) c.if-top_is_required.false
      (ap (seen c.args.self.now.tokens.given) c.set_top.ensures ∙ with_top_seen c.args.self.now.tokens.given None c.args.self.now.keys);
  bounds = search rules;
  window = search rules;
}
