use Rattle.yaml_loader.proofs.Common.{ap, arith, length, nat_tests, unfinished_of, with_document_end, ◌<◌}
use Rattle.yaml_loader.proofs.OpenedLemmas.{some_open}
use Rattle.yaml_loader.proofs.reading.TreeBuilder.end_document.Goals as goal

pub returns-then-not-is_empty-clause-err : goal.returns-then-not-is_empty-clause-err
returns-then-not-is_empty-clause-err c =
    let len = c.args.self.now.opened.ok.0 in
    let test = c.if-not-is_empty.ensures {u = tt} in
    let some : 0 < length c.args.self.now.opened.items = grind (arith, nat_tests) in
    ap (with_document_end (unfinished_of c.args.self.now)) (some_open c.args.self.now.opened.items some).2
