use Rattle.yaml_loader.proofs.Common.{refl, rules, unfinished_of, view}
use Rattle.yaml_loader.proofs.OpenedLemmas.{inserted_at}
use Rattle.yaml_loader.proofs.reading.TreeBuilder.insert.Goals as goal

pub returns-in-Some : goal.returns-in-Some
returns-in-Some c =
    let o = c.args.self.now.opened in
    let e = c.in-Some.ensures {u = tt} in
    let inserted = inserted_at c.insert.result (view c.args.node) (unfinished_of c.args.self.now) o.items o.len c.in-Some.collection.now c.insert.new.self o.ok.0 (e.variant.0 refl) e.value c.insert.ensures.ok c.insert.ensures.err in
    record { ok = inserted.0; err = inserted.1; documents = search rules }
