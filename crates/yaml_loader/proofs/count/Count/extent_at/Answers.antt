use Rattle.yaml_loader.proofs.LimitedCommon.{ap, extent_at, option_copied, option_map, refl, single_node, sym, unwrap_or, ◌∙◌}
use Rattle.yaml_loader.proofs.AliasLemmas.{found_at}
use Rattle.yaml_loader.proofs.count.Count.extent_at.Goals as goal

pub returns-in-Some : goal.returns-in-Some
returns-in-Some c =
    let found = sym c.get.ensures.value ∙ ap option_copied c.in-Some.is in
    sym (found_at (λ x. x) single_node extent_at (λ n. refl) (λ n e es. refl) c.args.self.now.anchors.entries c.args.number ∙ ap (λ o. unwrap_or (option_map (λ x. x) o) single_node) found)

pub returns-in-None : goal.returns-in-None
returns-in-None c =
    let found = sym c.get.ensures.value ∙ ap option_copied c.in-None.is in
    sym (found_at (λ x. x) single_node extent_at (λ n. refl) (λ n e es. refl) c.args.self.now.anchors.entries c.args.number ∙ ap (λ o. unwrap_or (option_map (λ x. x) o) single_node) found)
