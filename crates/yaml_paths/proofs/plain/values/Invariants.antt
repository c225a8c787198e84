use Rattle.std.proofs.Common.{◌≡◌, ◌++◌}
use Rattle.std.specs.Prelude.{map}
use Rattle.yaml_paths.specs.Explained.{AreOf}
use Rattle.yaml_paths.proofs.plain.values.Given as goal

abbrev pub invariant-items : goal.invariant-items
invariant-items g l = record {
  read : l.items ≡ map g.T.FromYaml.tree l.values.items ++ l.item-iterator;
  wanted : AreOf g.T.FromYaml.wanted (map g.T.FromYaml.tree l.values.items);
}
