-- Documents that are mappings, as the entries of a log are.
use Rattle.std.specs.Prelude.{Bool, not, List}
use Rattle.std.specs.List.{list_any}
use Rattle.yaml_rust2.specs.Node.{is_hash}
use Rattle.yaml_rust2.specs.Tree.{Tree}

-- one of the documents is no mapping
abbrev pub has_other : List Tree → Bool
has_other = list_any (λ t. not (is_hash t))
