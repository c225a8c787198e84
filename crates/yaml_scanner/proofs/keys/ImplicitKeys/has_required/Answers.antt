use Rattle.yaml_scanner.proofs.Common.{ap, is_required, key_of, list_any, refl, sym, ◌∙◌}
use Rattle.yaml_scanner.proofs.KeyLemmas.{any_seen}
use Rattle.yaml_scanner.proofs.keys.ImplicitKeys.has_required.Goals as goal

pub returns : goal.returns
returns c = rw (← c.self.view_is) (λ g. c.any_required.ensures ∙ ap (list_any (λ k. is_required (key_of 0 k))) c.deref.ensures.value ∙ sym (any_seen is_required g (λ k. refl) c.self.inside.levels.items))
