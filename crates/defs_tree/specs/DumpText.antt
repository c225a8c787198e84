-- The text that `dump` writes for a tree: the line `---` and the tree's box.
-- YAML 1.2, section 9.1 (documents).
use Rattle.std.specs.Prelude.{ℕ, Bool, true, List, ◌∷◌, codes}
use Rattle.defs_tree.specs.Tree.{Tree}
use Rattle.defs_tree.specs.Box.{box}
use Rattle.defs_tree.specs.Lines.{joined}

-- the text of a tree in the two settings
abbrev pub dump_text : Bool → Bool → Tree → List ℕ
dump_text compact multiline t = joined (codes "---" ∷ box compact multiline true t)
