use Rattle.yaml_loader.proofs.Common.{chars, of_parser, view, wants_memory}
use Rattle.yaml_loader.proofs.TextLemmas.{of_memory}
use Rattle.yaml_loader.proofs.JsonTexts.{json_given}
use Rattle.yaml_loader.proofs.load.load_text.Goals as goal

pub returns-in-Ok-Some : goal.returns-in-Ok-Some
returns-in-Ok-Some c =
    let one = c.one_document in
    let given = json_given (chars c.args.source.now) (view c.in-Ok-Some.tree) one.result (rw c.in-Ok-Some.field-0-is at (c.in-Ok-Some.ensures {u = tt})) one.ensures.ok one.ensures.err in
    record { reads = given.0; no_alias = given.1 }

pub returns-in-Err-clause-reads : goal.returns-in-Err-clause-reads
returns-in-Err-clause-reads c = of_parser (wants_memory c.out_of_memory.ensures)

pub returns-in-Ok-None-clause-reads : goal.returns-in-Ok-None-clause-reads
returns-in-Ok-None-clause-reads c = of_memory c.new.result c.args.source.now c.utf8.source c.new.ensures c.load_known.ensures.reads
