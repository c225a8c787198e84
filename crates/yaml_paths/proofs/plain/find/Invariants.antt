use Rattle.std.proofs.Common.{◌≡◌, ◌++◌, take, drop}
use Rattle.std.specs.Prelude.{option_map}
use Rattle.yaml_paths.specs.NoNode.{fault_at}
use Rattle.yaml_paths.specs.Path.{node_at, steps_of}
use Rattle.yaml_tree.specs.View.{view}
use Rattle.yaml_paths.proofs.plain.find.Given as goal

abbrev pub invariant-steps : goal.invariant-steps
invariant-steps l = record {
  found : node_at (steps_of (drop l.place l.path)) (view l.node) ≡ node_at (steps_of l.path) (view l.fn.node);
  fault : option_map (λ f. (steps_of (take l.place l.path) ++ f.0, f.1)) (fault_at (steps_of (drop l.place l.path)) (view l.node)) ≡ fault_at (steps_of l.path) (view l.fn.node);
}
