use Rattle.yaml_loader.proofs.Common.{[], ap, arith, length, nat_tests, ◌++◌, ◌∙◌, ◌∷◌, ◌≡◌}
use Rattle.yaml_loader.proofs.MarkedSteps.{inside_holds}
use Rattle.yaml_loader.proofs.marking.Marking.insert.Goals as goal

pub returns : goal.returns
returns c =
    let old = c.args.self.now in
    let len = old.opened.ok.0 in
    let test = c.is_empty.ensures in
    let some : old.opened.items ≡ [] → ⊥ = λ e. let none : length old.opened.items ≡ 0 = ap length e in grind (arith, nat_tests) in
    let waits : c.push_reserved.new.self.items ≡ old.waiting.items ++ c.args.mark ∷ [] = c.push_reserved.ensures.items ∙ ap (λ w. w ++ c.args.mark ∷ []) (c.in_ok-reserve.ensures {u = tt}).items in
    λ s x stands h. rw waits (inside_holds x c.args.mark s some stands h)
