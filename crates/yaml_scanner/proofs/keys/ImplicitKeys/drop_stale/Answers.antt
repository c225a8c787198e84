use Rattle.yaml_scanner.proofs.Common.{ap, is_stale, list_any, refl, sym, ◌∙◌}
use Rattle.yaml_scanner.proofs.KeyLemmas.{fresh_seen, none_any}
use Rattle.yaml_scanner.proofs.keys.ImplicitKeys.drop_stale.Goals as goal

pub returns-then-not-any_stale-clause-ok : goal.returns-then-not-any_stale-clause-ok
returns-then-not-any_stale-clause-ok c = rw (← c.self.view_is) (λ g. fresh_seen c.args.mark g c.self.inside.levels.items
    (ap (list_any (is_stale c.args.mark)) (sym c.deref.ensures.value) ∙ sym c.any_stale.ensures ∙ c.if-not-any_stale.true))

pub returns-then-not-self-clause-ok : goal.returns-then-not-self-clause-ok
returns-then-not-self-clause-ok c = rw (← c.self.view_is) (λ g. fresh_seen c.args.mark g c.self.inside.levels.items (none_any (is_stale c.args.mark) refl c.self.inside.levels.items (c.self.invariant c.if-not-self.true)))
