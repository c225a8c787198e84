-- The mark of a node without parts, and of an alias.
use Rattle.std.specs.Prelude.{Option, Some, None}
use Rattle.defs_text.specs.Position.{Position}
use Rattle.yaml_loader.specs.declared.mark.Mark.{Mark}

abbrev pub leaf_mark : Position → Mark
leaf_mark p = record { own = p; tree = p; first = 0; count = 0 }

-- an alias at this position, of the tree with this mark, where there is one
abbrev pub alias_mark : Position → Option Mark → Mark
alias_mark p None = leaf_mark p
alias_mark p (Some m) = record m { own = p }
