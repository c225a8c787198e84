use Rattle.std.proofs.Common.{◌≡◌, drop}
use Rattle.yaml_loader.specs.MarkedNode.{node_of}
use Rattle.yaml_paths.specs.Marked.{deepest}
use Rattle.yaml_paths.specs.Path.{steps_of}
use Rattle.yaml_paths.proofs.marked.deepest.Given as goal

abbrev pub invariant-steps : goal.invariant-steps
invariant-steps l = deepest (steps_of (drop l.step-index l.path)) (node_of l.node) ≡ deepest (steps_of l.path) (node_of l.initial.node)
