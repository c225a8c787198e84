use Rattle.yaml_loader.proofs.Common.{ap, finished, IfErr, IsRefusedBy, OnOk, reads, rules, subst, unfinished_of, view, with_tree, ◌≡◌}
use Rattle.yaml_loader.proofs.AliasLemmas.{inserted_over}
use Rattle.yaml_loader.proofs.reading.TreeBuilder.insert_anchored.Goals as goal

pub returns : goal.returns
returns c =
    let t = view c.args.node in
    let u = unfinished_of c.args.self.now in
    let x = unfinished_of c.finish.new.self in
    let v = unfinished_of c.insert.new.self in
    let r = c.insert.result in
    let others : x ≡ record u { anchors = x.anchors } = ap unfinished_of c.finish.ensures.others in
    let inserted = inserted_over r t u u.opened (finished c.args.anchor t u.anchors) x.anchors v (c.in_ok-finish.ensures {u = tt}).aliases
    (subst (λ w. OnOk r (with_tree t w w.opened ≡ reads v)) others c.insert.ensures.ok) (subst (λ w. IfErr r (λ f. IsRefusedBy f (with_tree t w w.opened) v.opened)) others c.insert.ensures.err) in
    record { ok = inserted.0; err = inserted.1; documents = search rules }
