use Rattle.yaml_loader.proofs.Common.{on_ok_weaker, ap, arith, drop, Mark, refl, ◌++◌, ◌-◌, ◌∙◌, ◌≡◌}
use Rattle.yaml_loader.proofs.MarkedSteps.{closes, all_dropped}
use Rattle.yaml_loader.proofs.marking.Marking.close.Goals as goal

pub returns : goal.returns
returns c =
    let old = c.args.self.now in
    let b = c.in-Some.collection in
    let n = c.min-before.result in
    let waiting_len = old.waiting.ok.0 in
    let table_len = old.table.ok.0 in
    let mark : Mark = record { own = b.start; tree = b.start; first = c.len-first.result; count = c.len-2.result - n } in
    let table : c.extend_from_slice.new.self.items ≡ old.table.items ++ drop n old.waiting.items =
    (c.in_ok-extend_from_slice.ensures {u = tt}).items ∙ ap (λ z. old.table.items ++ z) (all_dropped c.deref.result.now n) ∙ ap (λ z. old.table.items ++ drop n z) c.deref.ensures.value in
    on_ok_weaker c.insert_anchored.result
    (λ goes. closes b n mark old c.insert_anchored.new.self c.extend_from_slice.new.self c.truncate.new.self c.pop.new.self c.in-Some.ensures.items (λ h. omega (arith, c.min-before.ensures, c.len.ensures, waiting_len))
    table c.truncate.ensures.items refl refl (omega (arith, c.len-first.ensures, table_len)) (omega (arith, c.len-2.ensures, waiting_len)) goes) c.insert_anchored.ensures
