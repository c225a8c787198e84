use Rattle.std.proofs.Common.{rules, sym, ap, ◌∙◌, ◌+◌}
use Rattle.std.specs.Str.{chars}
use Rattle.yaml_loader.specs.MarkedNode.{node_of}
use Rattle.uses.proofs.validator.port.Goals as goal

pub returns-in_default : goal.returns-in_default
unfolding chars
returns-in_default c = sym c.in_default.ensures.node

pub returns-in-Some-number_of_port : goal.returns-in-Some-number_of_port
unfolding chars
returns-in-Some-number_of_port c = (node_of c.in-Some.node, sym c.in-Some.ensures.node, search rules)

pub returns : goal.returns
unfolding chars
returns c = (node_of c.in-Some.node, sym c.in-Some.ensures.node, sym c.in_default-number_of_port.ensures, c.line.ensures.value ∙ ap (λ p. p.line) c.marker-place.ensures, ap (λ n. n + 1) (c.col.ensures.value ∙ ap (λ p. p.col) c.marker-place.ensures))
