use Rattle.yaml_loader.proofs.Common.{aliased, anchors_of, ap, bad_value, IfOk-weaker, option_copied, option_map, sym, unwrap_or, view, ◌∙◌, ◌≡◌}
use Rattle.yaml_loader.proofs.AliasLemmas.{aliased_is}
use Rattle.yaml_loader.proofs.reading.TreeBuilder.aliased.Goals as goal

pub returns-in-Some : goal.returns-in-Some
returns-in-Some c =
    let es = c.args.self.now.anchors.entries in
    let found = sym c.get.ensures.value ∙ ap option_copied c.in-Some.is in
    let e = aliased_is es c.args.number ∙ ap (λ o. unwrap_or (option_map view o) bad_value) found in
    IfOk-weaker c.clone.result (λ y. view y ≡ view c.in-Some.node.now) (λ y. view y ≡ aliased c.args.number (anchors_of es)) (λ y h. h ∙ sym e) c.clone.ensures.tree

pub returns-in-None : goal.returns-in-None
returns-in-None c =
    let found = sym c.get.ensures.value ∙ ap option_copied c.in-None.is in
    sym (aliased_is c.args.self.now.anchors.entries c.args.number ∙ ap (λ o. unwrap_or (option_map view o) bad_value) found)
