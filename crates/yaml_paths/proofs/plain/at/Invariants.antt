use Rattle.std.proofs.Common.{◌≡◌, drop}
use Rattle.yaml_paths.specs.Path.{node_at, steps_of}
use Rattle.yaml_tree.specs.View.{view}
use Rattle.yaml_paths.proofs.plain.at.Given as goal

abbrev pub invariant-steps : goal.invariant-steps
invariant-steps l = node_at (steps_of (drop l.step-index l.path)) (view l.node) ≡ node_at (steps_of l.path) (view l.fn.node)
