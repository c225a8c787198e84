use Rattle.yaml_scanner.proofs.Common.{is_front, refl, sym, ◌∙◌}
use Rattle.yaml_scanner.proofs.KeyLemmas.{any_reversed, none_any}
use Rattle.yaml_scanner.proofs.keys.ImplicitKeys.may_precede.Goals as goal

pub returns-else-self : goal.returns-else-self
returns-else-self c = rw (← c.self.view_is) (c.if-self.false ∙ sym (any_reversed is_front c.self.inside.levels.items ∙ none_any is_front refl c.self.inside.levels.items (c.self.invariant c.if-self.false)))
