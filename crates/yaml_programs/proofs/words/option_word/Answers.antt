use Rattle.std.proofs.lemmas.Str.Pattern.{split_once_first}
use Rattle.yaml_programs.proofs.Common.{ap, arith, is_equals_sign, map, None, option_map, row, sym, ◌∙◌}
use Rattle.yaml_programs.proofs.Asks.{bare_nothing, bare_value, bare_unknown}
use Rattle.yaml_programs.proofs.Places.{position_none}
use Rattle.yaml_programs.proofs.words.option_word.Goals as goal

pub returns-in-Some-option_of-2 : goal.returns-in-Some-option_of-2
returns-in-Some-option_of-2 c =
    let none = position_none is_equals_sign c.args.word.now (split_once_first 61 c.args.word.now None c.in-None.ensures.cases (omega arith)) in
    bare_nothing (map row c.args.options.now) c.args.word.now (row c.in-Some-option_of-2.option) none (sym c.option_of-in-None.ensures ∙ ap (option_map row) c.in-Some-option_of-2.is) (sym c.if-is_empty-2.ensures)

pub returns-in-Some-2-option_of : goal.returns-in-Some-2-option_of
returns-in-Some-2-option_of c =
    let none = position_none is_equals_sign c.args.word.now (split_once_first 61 c.args.word.now None c.in-None.ensures.cases (omega arith)) in
    bare_value (map row c.args.options.now) c.args.word.now (row c.in-Some-option_of-2.option) none (sym c.option_of-in-None.ensures ∙ ap (option_map row) c.in-Some-option_of-2.is) (sym c.if-is_empty-2.ensures)

pub returns-in-None-option_of-2 : goal.returns-in-None-option_of-2
returns-in-None-option_of-2 c =
    let none = position_none is_equals_sign c.args.word.now (split_once_first 61 c.args.word.now None c.in-None.ensures.cases (omega arith)) in
    bare_unknown (map row c.args.options.now) c.args.word.now none (sym c.option_of-in-None.ensures ∙ ap (option_map row) c.in-None-option_of-2.is)
