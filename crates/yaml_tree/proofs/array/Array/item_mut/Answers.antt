use Rattle.yaml_tree.proofs.Common.{ap, map-set, refl, slice_set, view, ◌∙◌}
use Rattle.yaml_tree.proofs.Lending.{item_there}
use Rattle.yaml_tree.proofs.array.Array.item_mut.Goals as goal

pub returns : goal.returns
returns c = (
  (refl, λ w. map-set view c.self.inside.items.items c.args.index w ∙ ap (λ ts. slice_set ts c.args.index (view w)) c.self.view_is),
  record {
    writes_back = tt;
    value = rw (← c.self.view_is) (item_there c.self.inside.items.items c.args.index _ c.index_mut.ensures.value (rw (← c.self.view_is) at c.requires));
  },
)
