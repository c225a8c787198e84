use Rattle.yaml_loader.proofs.Common.{[], all_opened, ap, hash, None, opened_mapping, opened_of, option_map, pairs_of, rules, sym, unfinished_of, view, with_mapping_end, ◌∙◌}
use Rattle.yaml_loader.proofs.AliasLemmas.{ended}
use Rattle.yaml_loader.proofs.OpenedLemmas.{popped_as}
use Rattle.yaml_loader.proofs.reading.TreeBuilder.end_mapping.Goals as goal

pub returns-in-Some-Mapping-default-default-None : goal.returns-in-Some-Mapping-default-default-None
returns-in-Some-Mapping-default-default-None c =
    let u = unfinished_of c.args.self.now in
    let a = c.in-Some-Mapping-default-default-None in
    let insert = c.insert_anchored in
    let mapping = ap opened_of a.field-0-is ∙ ap (λ k. opened_mapping a.anchor a.pairs (option_map view k)) a.field-0-2-is in
    let was = popped_as c.args.self.now.opened.items c.pop.new.self.items a.field-0 (opened_mapping a.anchor a.pairs None) (a.ensures {u = tt}).items mapping in
    let end = ended a.anchor (hash (pairs_of a.pairs)) u (all_opened c.pop.new.self.items []) (unfinished_of insert.new.self) insert.result (sym (ap (with_mapping_end u) was)) insert.ensures.ok insert.ensures.err in
    record { ok = end.0; err = end.1; documents = search rules }

pub returns-in-Some-Mapping-default-default-Some-clause-err : goal.returns-in-Some-Mapping-default-default-Some-clause-err
returns-in-Some-Mapping-default-default-Some-clause-err c =
    let a = c.in-Some-Mapping-default-default-Some in
    ap (with_mapping_end (unfinished_of c.args.self.now)) (popped_as c.args.self.now.opened.items c.pop.new.self.items a.field-0 _ (a.ensures {u = tt}).items
    (ap opened_of a.field-0-is ∙ ap (λ k. opened_mapping a.field-0-0 a.field-0-1 (option_map view k)) a.field-0-2-is))

pub returns-in-Some-Sequence-clause-err : goal.returns-in-Some-Sequence-clause-err
returns-in-Some-Sequence-clause-err c =
    let a = c.in-Some-Sequence in
    ap (with_mapping_end (unfinished_of c.args.self.now)) (popped_as c.args.self.now.opened.items c.pop.new.self.items a.field-0 _ (a.ensures {u = tt}).items (ap opened_of a.field-0-is))
