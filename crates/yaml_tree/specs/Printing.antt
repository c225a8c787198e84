-- What is left of a tree that is printed.
use Rattle.std.specs.Prelude.{ℕ, suc, ◌+◌, ◌*◌, List, [], ◌∷◌}
use Rattle.defs_tree.specs.Tree.{items_of}
use Rattle.yaml_tree.specs.View.{items_view}
use Rattle.yaml_tree.specs.Weight.{items_nodes}
use Rattle.yaml_tree.specs.declared.debug.Level.{Level}

-- how many nodes of an array or a hash are left to be printed
abbrev pub unprinted : Level → ℕ
unprinted l = items_nodes (items_of (items_view l.rest.now))

-- more than the turns that are left for open arrays and hashes: each is closed in one, and each node takes at most two
abbrev pub turns : List Level → ℕ
turns [] = 0
turns (l ∷ ls) = suc (2 * unprinted l + turns ls)
