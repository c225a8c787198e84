-- Values that may be missing.
use Rattle.std.specs.Prelude.{◌≡◌, ◌⊎◌, List, Option, Some, None}
use Rattle.defs_tree.specs.Path as tree_path
use Rattle.defs_tree.specs.Tree.{Tree}
use Rattle.yaml_paths.specs.NoNode.{IsMissing}
use Rattle.yaml_paths.specs.Path.{node_at}

-- The node at the end of the path is read as this value; or there is none, and the node is missing.
abbrev pub IsRead : {V : Type 0} → (V → Tree) → List tree_path.Step → Tree → Option V → Type 0
IsRead tree path t (Some v) = node_at path t ≡ Some (tree v)
IsRead tree path t None = IsMissing path t

-- The node at the end of the path is read as this value; or the node is missing, and this is the default.
abbrev pub IsReadOr : {V : Type 0} → V → (V → Tree) → List tree_path.Step → Tree → V → Type 0
IsReadOr default tree path t v = (node_at path t ≡ Some (tree v)) ⊎ (IsMissing path t × (v ≡ default))
