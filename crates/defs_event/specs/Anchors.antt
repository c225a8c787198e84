-- The trees of finished anchors, by number: what an alias is a copy of. YAML 1.2, section 3.2.2.2.
use Rattle.std.specs.Prelude.{ℕ, zero, suc, nat_eq, if◌then◌else◌, List, [], ◌∷◌}
use Rattle.defs_tree.specs.Tree.{Tree, bad_value}

-- the last one first
abbrev pub Anchors : Type 0
Anchors = List (ℕ × Tree)

-- The tree of an alias: the finished tree of its number, else a bad value; so it is one inside the very node that it names.
abbrev pub aliased : ℕ → Anchors → Tree
aliased n [] = bad_value
aliased n (a ∷ anchors) = if nat_eq n a.0 then a.1 else aliased n anchors

-- A node with this anchor is finished; the number 0 is no anchor.
abbrev pub finished : ℕ → Tree → Anchors → Anchors
finished zero t anchors = anchors
finished (suc n) t anchors = (suc n, t) ∷ anchors
