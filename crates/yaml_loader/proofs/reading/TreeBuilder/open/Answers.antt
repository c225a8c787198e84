use Rattle.yaml_loader.proofs.Common.{[], all_opened, ap, arith, length, nat_tests, None, opened_of, option_map, ReadsTo, refl, subst, sym, unfinished_of, view, ◌++◌, ◌<◌, ◌∙◌, ◌∷◌, ◌≡◌}
use Rattle.yaml_loader.proofs.OpenedLemmas.{all_opened_push, start_reads, some_open, no_root}
use Rattle.yaml_loader.proofs.reading.TreeBuilder.open.Goals as goal
use Rattle.yaml_loader.proofs.reading.TreeBuilder.open.Goals.{else-is_empty-via-then-is_empty+else-is_some, else-is_empty-via-else-is_empty}

pub returns-clause-ok : goal.returns-clause-ok
returns-clause-ok c =
    let r = c.args.self.now in
    let os = all_opened r.opened.items [] in
    let len = r.opened.ok.0 in
    let may : os ≡ [] → option_map view r.root ≡ None =
    elim c.else-is_empty.branch [
      | else-is_empty-via-then-is_empty+else-is_some w ↦ (λ e. no_root r.root (sym w.is_some.ensures ∙ w.if-is_some.false))
      | else-is_empty-via-else-is_empty w ↦ (let test = w.if-is_empty.ensures {u = tt} in let some : 0 < length r.opened.items = grind (arith, nat_tests) in λ e. let no = sym e ∙ (some_open r.opened.items some).2 in cc)
    ] in
    let new : all_opened c.push_reserved.new.self.items [] ≡ opened_of c.args.collection ∷ os =
    ap (λ x. all_opened x []) (c.push_reserved.ensures.items ∙ ap (λ x. x ++ c.args.collection ∷ []) c.reserve.ensures.items) ∙ all_opened_push r.opened.items c.args.collection [] in
    subst (λ s. ReadsTo s (unfinished_of (record r { opened = c.push_reserved.new.self }))) (sym (start_reads (opened_of c.args.collection) (unfinished_of r) os (option_map view r.root) may))
    (record { documents = refl; opened = sym new; root = refl; aliases = λ n. refl })
