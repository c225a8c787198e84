use Rattle.yaml_loader.proofs.Common.{[], all_opened, ap, array, items_of, opened_of, opened_sequence, rules, sym, unfinished_of, with_sequence_end}
use Rattle.yaml_loader.proofs.AliasLemmas.{ended}
use Rattle.yaml_loader.proofs.OpenedLemmas.{popped_as}
use Rattle.yaml_loader.proofs.reading.TreeBuilder.end_sequence.Goals as goal

pub returns-in-Some-Sequence : goal.returns-in-Some-Sequence
returns-in-Some-Sequence c =
    let u = unfinished_of c.args.self.now in
    let a = c.in-Some-Sequence in
    let insert = c.insert_anchored in
    let was = popped_as c.args.self.now.opened.items c.pop.new.self.items a.field-0 (opened_sequence a.anchor a.items) (a.ensures {u = tt}).items (ap opened_of a.field-0-is) in
    let end = ended a.anchor (array (items_of a.items)) u (all_opened c.pop.new.self.items []) (unfinished_of insert.new.self) insert.result (sym (ap (with_sequence_end u) was)) insert.ensures.ok insert.ensures.err in
    record { ok = end.0; err = end.1; documents = search rules }

pub returns-in-Some-Mapping-clause-err : goal.returns-in-Some-Mapping-clause-err
returns-in-Some-Mapping-clause-err c =
    let a = c.in-Some-Mapping in
    ap (with_sequence_end (unfinished_of c.args.self.now)) (popped_as c.args.self.now.opened.items c.pop.new.self.items a.field-0 _ (a.ensures {u = tt}).items (ap opened_of a.field-0-is))
