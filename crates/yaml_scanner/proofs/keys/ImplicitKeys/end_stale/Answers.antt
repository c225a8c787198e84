use Rattle.yaml_scanner.proofs.Common.{ap, is_overdue, is_some, key_of, list_any, map, still_implicit, sym, with_items_is, ◌∙◌}
use Rattle.yaml_scanner.proofs.KeyLemmas.{overdue_seen, still_seen, none_found}
use Rattle.yaml_scanner.proofs.keys.ImplicitKeys.end_stale.Goals as goal

pub returns-then-any_overdue-clause-err : goal.returns-then-any_overdue-clause-err
returns-then-any_overdue-clause-err c = rw (← c.self.view_is) (λ g. overdue_seen c.args.mark g c.self.inside.levels.items
    (ap (list_any (λ k. is_overdue c.args.mark (key_of 0 k))) (sym c.deref.ensures.value) ∙ sym c.any_overdue.ensures ∙ c.if-any_overdue.true))

pub returns-clause-ok : goal.returns-clause-ok
returns-clause-ok c = rw (← c.self.view_is) (λ g. still_seen c.args.mark g c.self.inside.levels.items _
    (ap (list_any (λ k. is_overdue c.args.mark (key_of 0 k))) (sym c.deref.ensures.value) ∙ sym c.any_overdue.ensures ∙ c.if-any_overdue.false)
    (with_items_is c.self.inside.levels c.drop_far.new.keys (c.drop_far.auto.keys ∙ c.deref_mut.ensures.len) ∙ c.drop_far.ensures ∙ ap (map (still_implicit c.args.mark)) c.deref_mut.ensures.value))

pub invariant_of-self : goal.invariant_of-self
invariant_of-self c = λ e. none_found _ (ap (list_any is_some) (sym c.deref-2.ensures.value) ∙ sym c.any_key-self-inside.ensures ∙ e)
