use Rattle.yaml_scanner.proofs.Common.{ap, map, map-map, refl, no_implicit, reverse, seen, with_items_is, ◌∙◌, ◌≡◌}
use Rattle.yaml_scanner.proofs.KeyLemmas.{cleared_seen}
use Rattle.yaml_scanner.proofs.keys.ImplicitKeys.clear.Goals as goal

pub returns : goal.returns
returns c = rw (← c.self.view_is) (λ g. ap (λ ks. seen g (reverse ks)) (with_items_is c.self.inside.levels c.close_all.new.keys (c.close_all.auto.keys ∙ c.deref_mut.ensures.len))
    ∙ cleared_seen g c.self.inside.levels.items c.close_all.new.keys (c.close_all.ensures ∙ ap (map no_implicit) c.deref_mut.ensures.value))

pub invariant_of-self : goal.invariant_of-self
invariant_of-self c = λ _.
    let made : c.close_all.new.keys ≡ map no_implicit c.self.inside.levels.items = c.close_all.ensures ∙ ap (map no_implicit) c.deref_mut.ensures.value in
    rw (with_items_is c.self.inside.levels c.close_all.new.keys (c.close_all.auto.keys ∙ c.deref_mut.ensures.len), made) (simp map-map refl)
