use Rattle.yaml_scanner.proofs.Common.{ap, lowered, map, reverse, sym, with_items_is, ◌∙◌}
use Rattle.yaml_scanner.proofs.KeyLemmas.{map_reversed, none_lowered}
use Rattle.yaml_scanner.proofs.keys.ImplicitKeys.lower.Goals as goal

pub returns-then-self : goal.returns-then-self
returns-then-self c = rw (← c.self.view_is) (ap reverse (with_items_is c.self.inside.levels c.lower_all.new.keys (c.lower_all.auto.keys ∙ c.deref_mut.ensures.len) ∙ c.lower_all.ensures ∙ ap (map lowered) c.deref_mut.ensures.value)
    ∙ sym (map_reversed lowered c.self.inside.levels.items))

pub returns-else-self : goal.returns-else-self
returns-else-self c = rw (← c.self.view_is) (sym (map_reversed lowered c.self.inside.levels.items ∙ ap reverse (none_lowered c.self.inside.levels.items (c.self.invariant c.if-self.false))))
