use Rattle.yaml_tree.proofs.Common.{absent, inl, place_in, refl, sym, view, ◌∙◌}
use Rattle.yaml_tree.proofs.hash.Hash.get_mut.Goals as goal

pub value_mut_at-requires : goal.value_mut_at-requires
value_mut_at-requires c = (place_in (view c.args.key.now) c.args.self.now c.in-Some.i (c.in-Some.ensures {u = tt}).place).within

pub returns-in-Some : goal.returns-in-Some
returns-in-Some c =
    let at = place_in (view c.args.key.now) c.args.self.now c.in-Some.i (c.in-Some.ensures {u = tt}).place in
    (λ i. inl (c.value_mut_at.result.ghost_name, λ w. at.changed (view w) i), record { writes_back = tt; value = c.value_mut_at.ensures.value ∙ at.found })

pub returns : goal.returns
returns c = (refl, record { writes_back = tt; value = sym (absent (view c.args.key.now) c.args.self.now (c.in-None.ensures {u = tt}).place).unfound })
