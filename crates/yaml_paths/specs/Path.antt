-- Paths: rows of steps from a node down.
use Rattle.std.specs.Prelude.{List, [], ◌∷◌, Option, Some, option_and_then, slice_get, map, chars}
use Rattle.defs_tree.specs.Path as tree_path
use Rattle.defs_tree.specs.Path.{index, key}
use Rattle.defs_tree.specs.Tree.{Tree}
use Rattle.yaml_paths.specs.declared.step.Step.{Step}
use Rattle.yaml_paths.specs.declared.step.Step.TheVariants.{Key, Index}
use Rattle.yaml_tree.specs.Node.{array_of, value_at_text}

abbrev pub step_view : Step → tree_path.Step
step_view (Key s) = key (chars s.now)
step_view (Index n) = index n

abbrev pub steps_of : List Step → List tree_path.Step
steps_of ss = map step_view ss

-- The node at the end of a step: in an array the item at the place, in a hash the value of the key that is the string.
abbrev pub step_from : tree_path.Step → Tree → Option Tree
step_from (index i) t = option_and_then (λ ts. slice_get ts i) (array_of t)
step_from (key s) t = value_at_text s t

-- at the end of a path
abbrev pub node_at : List tree_path.Step → Tree → Option Tree
node_at [] t = Some t
node_at (s ∷ ss) t = option_and_then (node_at ss) (step_from s t)
