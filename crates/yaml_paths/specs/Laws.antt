-- What holds of all paths.
use Rattle.std.specs.Prelude.{◌≡◌, List, is_some, is_none}
use Rattle.defs_tree.specs.Path as tree_path
use Rattle.defs_tree.specs.Tree.{Tree}
use Rattle.yaml_paths.specs.NoNode.{fault_at}
use Rattle.yaml_paths.specs.Path.{node_at}

-- There is a reason why a path leads to no node exactly where it leads to none.
abbrev pub EachLeadsToANodeOrHasAFault : Type 0
EachLeadsToANodeOrHasAFault = (path : List tree_path.Step) (t : Tree) → is_some (fault_at path t) ≡ is_none (node_at path t)
