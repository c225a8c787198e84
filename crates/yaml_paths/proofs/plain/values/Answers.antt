use Rattle.std.proofs.Common.{ap, ◌∙◌, rules, arith}
use Rattle.std.proofs.lemmas.Grind.{common_steps}
use Rattle.yaml_paths.proofs.Reading.{no_room, other_item, one_more, pushed}
use Rattle.yaml_paths.specs.Kinds.{kind_of}
use Rattle.yaml_paths.proofs.plain.values.Goals as goal

pub returns-in_default-clause-err : goal.returns-in_default-clause-err
returns-in_default-clause-err g c =
    other_item g.T.FromYaml.wanted g.T.FromYaml.tree c.args.path c.args.items.now c.items.item-iterator c.next.new.self _ c.items.values.items _ _ c.other.result
    c.items.invariant.read c.items.invariant.wanted c.in-Some.ensures.steps (c.len.ensures ∙ c.items.values.ok.0) c.in_default.ensures.other c.kind.ensures c.other.ensures

pub returns-then-is_err-clause-err : goal.returns-then-is_err-clause-err
returns-then-is_err-clause-err g c =
    no_room g.T.FromYaml.wanted g.T.FromYaml.tree c.args.path c.args.items.now c.items.item-iterator c.next.new.self _ c.items.values.items c.new.result
    c.items.invariant.read c.items.invariant.wanted c.in-Some.ensures.steps (ap kind_of c.in-Some-from_yaml.ensures.value ∙ c.in-Some-from_yaml.ensures.wanted) c.new.ensures

pub items-preserved : goal.items-preserved
items-preserved g c = record {
  read = first_of (search rules, grind (arith, common_steps));
  wanted = one_more g.T.FromYaml.wanted g.T.FromYaml.tree _ _ _ (pushed c.push.result _ _ _ _ c.push.ensures.items c.is_err.ensures.value c.if-is_err.false) c.in-Some-from_yaml.ensures.wanted c.items.invariant.wanted;
}
