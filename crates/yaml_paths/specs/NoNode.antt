-- Why a path leads to no node: a part is missing, or a node on the way is of another kind than its next step wants.
use Rattle.std.specs.Prelude.{◌≡◌, List, [], ◌∷◌, Option, Some, None, option_map}
use Rattle.defs_tree.specs.Path as tree_path
use Rattle.defs_tree.specs.Path.{index, key}
use Rattle.defs_tree.specs.Tree.{Tree}
use Rattle.yaml_paths.specs.Kinds.{kind_of}
use Rattle.yaml_paths.specs.Path.{step_from}
use Rattle.yaml_paths.specs.declared.error.Reason.{Reason}
use Rattle.yaml_paths.specs.declared.error.Reason.TheVariants.{Missing, Other}
use Rattle.yaml_paths.specs.declared.kind.Kind.{Kind}
use Rattle.yaml_paths.specs.declared.kind.Kind.TheVariants.{Array, Hash, Null}

-- Why a step leads from a node of this kind to none. A key is missing in a hash, an item in an array. Null stands for both: nothing is in it.
abbrev pub reason_at : tree_path.Step → Kind → Reason
reason_at s Null = Missing
reason_at (key s) Hash = Missing
reason_at (index i) Array = Missing
reason_at (key s) k = Other Hash k
reason_at (index i) k = Other Array k

-- Of two paths, to a node and one step further: that of the node which the reason is about. What is missing is the step's end; a node of another kind is there.
abbrev pub told : {P : Type 0} → Reason → P → P → P
told Missing there further = further
told _ there further = there

-- the reason, with the path of what it is about
abbrev pub fault_from : tree_path.Step → Reason → List tree_path.Step × Reason
fault_from s why = (told why [] (s ∷ []), why)

-- Why there is no node at the end of a step, if there is none; else why the path leads from there to none, if it does.
abbrev pub fault_after : tree_path.Step → Tree → (Tree → Option (List tree_path.Step × Reason)) → Option Tree → Option (List tree_path.Step × Reason)
fault_after s t further None = Some (fault_from s (reason_at s (kind_of t)))
fault_after s t further (Some u) = option_map (λ f. (s ∷ f.0, f.1)) (further u)

-- why a path leads to no node, if it leads to none
abbrev pub fault_at : List tree_path.Step → Tree → Option (List tree_path.Step × Reason)
fault_at [] t = None
fault_at (s ∷ ss) t = fault_after s t (fault_at ss) (step_from s t)

-- No node is at the end of the path, and none on the way is of another kind than its step wants.
abbrev pub IsMissing : List tree_path.Step → Tree → Type 0
IsMissing path t = (missing : List tree_path.Step) × (fault_at path t ≡ Some (missing, Missing))
